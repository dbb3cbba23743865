-- What holds of each group, behind a move of all or of one.
use Rattle.std.proofs.Common.{◌≡◌, ℕ, ◌==◌, Bool, true, false, cond, not, nat_lt, List, [], ◌∷◌, ◌++◌, length, refl, sym, subst, ◌∙◌, arith, true≢false}
use Rattle.std.specs.Prelude.{Some}
use Rattle.std.specs.List.{AllByRecursion, find, list_any}
use Rattle.std.specs.Str.{bytes_eq}
use Rattle.std.proofs.lemmas.Option.{same_Some}
use Rattle.std.proofs.lemmas.Slice.Eq.{bytes_eq-Decides}
use Rattle.group_coordinator.specs.declared.values.Settings.{Settings}
use Rattle.group_coordinator.specs.declared.values.TheConstants.{MOST_GENERATION}
use Rattle.group_coordinator.specs.declared.values.Wait.TheVariants.{Syncs, Assigned}
use Rattle.group_coordinator.specs.Members.{is_in, is_joining}
use Rattle.group_coordinator.specs.Groups.{Group, Move, Moved, is_stable, stays, and_then, is_preparing, prepare, drop_those, begin_generation, if_any_left, complete, is_complete, settle}
use Rattle.group_coordinator.specs.Requests.{JoinRequest, SyncRequest}
use Rattle.group_coordinator.specs.Joining.{with_member, plainly, called, call, waits, rejoin, join_new, join_anew, is_repeat, sync, is_led_by, give_parts, leave, end_session, without_session}
use Rattle.group_coordinator.specs.Coordinators.{kept, move_each, only, is_named}
use Rattle.group_coordinator.specs.Times.{expire_group, is_silent}
use Rattle.group_coordinator.specs.Keeping.{AreApart}
use Rattle.coordinator_laws.proofs.Lists.{by_test, all_append, all_weaker}

-- ---- each group

all_kept : (P : Group → Type 0) (g : Group) → P g → AllByRecursion P (kept g)
all_kept P g p = by_test (λ (gs : List Group). AllByRecursion P gs) (0 == length g.members) [] (g ∷ []) (λ e. tt) (λ e. (p, tt))

peopled_kept : (g : Group) → AllByRecursion (λ g. nat_lt 0 (length g.members) ≡ true) (kept g)
peopled_kept g = by_test (λ (gs : List Group). AllByRecursion (λ g. nat_lt 0 (length g.members) ≡ true) gs) (0 == length g.members) [] (g ∷ [])
    (λ e. tt) (λ e. (grind (arith, e), tt))

pub each_moved : (P Q : Group → Type 0) (a : Move) → ((n : ℕ) (g : Group) → P g → Q (a n g).group) → (n : ℕ) (gs : List Group) → AllByRecursion P gs
    → AllByRecursion Q (move_each a n gs).groups
each_moved P Q a w n [] all = tt
each_moved P Q a w n (g ∷ gs) all = all_append Q (kept (a n g).group) _ (all_kept Q (a n g).group (w n g all.0)) (each_moved P Q a w (a n g).generations gs all.1)

pub each_peopled : (a : Move) (n : ℕ) (gs : List Group) → AllByRecursion (λ g. nat_lt 0 (length g.members) ≡ true) (move_each a n gs).groups
each_peopled a n [] = tt
each_peopled a n (g ∷ gs) = all_append _ (kept (a n g).group) _ (peopled_kept (a n g).group) (each_peopled a (a n g).generations gs)

-- what a move of the groups of one name leaves
pub only_moved : (P : Group → Type 0) (name : List ℕ) (a : Move) (n : ℕ) (g : Group) → (is_named name g ≡ true → P (a n g).group) → (is_named name g ≡ false → P g)
    → P (only name a n g).group
only_moved P name a n g here there = by_test (λ (m : Moved). P m.group) (is_named name g) (a n g) (stays n g) here there

-- ---- names

-- a move leaves a group its name
abbrev pub KeepsName : Move → Type 0
KeepsName a = (n : ℕ) (g : Group) → (a n g).group.name ≡ g.name

pub names_then : (a b : Move) → KeepsName a → KeepsName b → KeepsName (and_then a b)
names_then a b k l n g = l (a n g).generations (a n g).group ∙ k n g

pub names_if : (t : Group → Bool) (a b : Move) → KeepsName a → KeepsName b → (n : ℕ) (g : Group) → (cond (t g) (a n g) (b n g)).group.name ≡ g.name
names_if t a b k l n g = by_test (λ (m : Moved). m.group.name ≡ g.name) (t g) (a n g) (b n g) (λ e. k n g) (λ e. l n g)

names_prepare : (o : Settings) (now : ℕ) → KeepsName (prepare o now)
names_prepare o now n g = by_test (λ (m : Moved). m.group.name ≡ g.name) (is_preparing g.phase) (stays n g) _ (λ e. refl) (λ e. refl)

names_begin : (now : ℕ) → KeepsName (begin_generation now)
names_begin now n g = by_test (λ (m : Moved). m.group.name ≡ g.name) (nat_lt n MOST_GENERATION) _ (drop_those (λ m. true) n g) (λ e. refl) (λ e. refl)

names_complete : (now : ℕ) → KeepsName (complete now)
names_complete now = names_then (drop_those (λ m. not (is_joining m.wait))) (if_any_left (begin_generation now)) (λ n g. refl)
    (names_if (λ g. 0 == length g.members) stays (begin_generation now) (λ n g. refl) (names_begin now))

names_settle : (now : ℕ) → KeepsName (settle now)
names_settle now = names_if (λ g. is_complete now g g.phase) (complete now) stays (names_complete now) (λ n g. refl)

names_anew : (o : Settings) (now : ℕ) → KeepsName (and_then (prepare o now) (settle now))
names_anew o now = names_then (prepare o now) (settle now) (names_prepare o now) (names_settle now)

pub names_rejoin : (o : Settings) (now k : ℕ) (q : JoinRequest) → KeepsName (rejoin o now k q)
names_rejoin o now k q n g = by_test (λ (m : Moved). m.group.name ≡ g.name) (is_repeat q g) _ (and_then (call now q.member) (join_anew o now k q) n g)
    (λ e. refl) (λ e. names_then (call now q.member) (join_anew o now k q) (λ n g. refl) (λ n g. names_anew o now n _) n g)

pub names_join_new : (o : Settings) (now k number : ℕ) (client : List ℕ) (q : JoinRequest) → KeepsName (join_new o now k number client q)
names_join_new o now k number client q n g = names_anew o now n _

names_given : (now : ℕ) (q : SyncRequest) (g : Group) → (give_parts now q g).name ≡ g.name
names_given now q g = by_test (λ (h : Group). h.name ≡ g.name) (is_led_by q.member g) _ g (λ e. refl) (λ e. refl)

pub names_sync : (now k : ℕ) (q : SyncRequest) → KeepsName (sync now k q)
names_sync now k q n g = by_test (λ (m : Moved). m.group.name ≡ g.name) (is_stable g.phase)
    (and_then (call now q.member) (plainly (with_member q.member (waits (Assigned k)))) n g)
    (and_then (call now q.member) (and_then (plainly (with_member q.member (waits (Syncs k)))) (plainly (give_parts now q))) n g)
    (λ e. refl) (λ e. names_given now q (with_member q.member (waits (Syncs k)) (with_member q.member (called now) g)))

pub names_leave : (o : Settings) (now : ℕ) (id : List ℕ) → KeepsName (leave o now id)
names_leave o now id n g = names_anew o now n _

pub names_end : (now k : ℕ) → KeepsName (end_session now k)
names_end now k n g = by_test (λ (m : Moved). m.group.name ≡ g.name) (list_any (λ m. is_in k m.wait) g.members)
    (and_then (plainly (without_session now k)) (settle now) n g) (stays n g) (λ e. names_settle now n (without_session now k g)) (λ e. refl)

pub names_expire : (o : Settings) (now : ℕ) → KeepsName (expire_group o now)
names_expire o now n g = by_test (λ (m : Moved). m.group.name ≡ g.name) (list_any (is_silent now g) g.members)
    (and_then (drop_those (is_silent now g)) (and_then (prepare o now) (settle now)) n g) (settle now n g)
    (λ e. names_anew o now n (drop_those (is_silent now g) n g).group) (λ e. names_settle now n g)

pub names_only : (name : List ℕ) (a : Move) → KeepsName a → KeepsName (only name a)
names_only name a k n g = by_test (λ (m : Moved). m.group.name ≡ g.name) (is_named name g) (a n g) (stays n g) (λ e. k n g) (λ e. refl)

-- ---- no two groups have one name

abbrev Others : List ℕ → List Group → Type 0
Others name gs = AllByRecursion (λ h. is_named name h ≡ false) gs

others_moved : (name : List ℕ) (a : Move) → KeepsName a → (n : ℕ) (gs : List Group) → Others name gs → Others name (move_each a n gs).groups
others_moved name a k n gs all = each_moved _ _ a (λ n g e. subst (λ (x : List ℕ). bytes_eq x name ≡ false) (sym (k n g)) e) n gs all

apart_kept : (g : Group) (gs : List Group) → Others g.name gs → AreApart gs → AreApart (kept g ++ gs)
apart_kept g gs others apart = by_test (λ (hs : List Group). AreApart (hs ++ gs)) (0 == length g.members) [] (g ∷ []) (λ e. apart) (λ e. (others, apart))

pub apart_moved : (a : Move) → KeepsName a → (n : ℕ) (gs : List Group) → AreApart gs → AreApart (move_each a n gs).groups
apart_moved a k n [] apart = tt
apart_moved a k n (g ∷ gs) apart = apart_kept (a n g).group _
    (subst (λ (x : List ℕ). Others x (move_each a (a n g).generations gs).groups) (sym (k n g)) (others_moved g.name a k (a n g).generations gs apart.0))
    (apart_moved a k (a n g).generations gs apart.1)

-- a group more, of another name
pub apart_more : (gs : List Group) (h : Group) → AllByRecursion (λ g. is_named h.name g ≡ false) gs → AreApart gs → AreApart (gs ++ h ∷ [])
apart_more [] h others apart = (tt, tt)
apart_more (g ∷ gs) h others apart = (all_append _ gs _ apart.0 (turned h.name g.name others.0, tt), apart_more gs h others.1 apart.1) where
  turned : (x y : List ℕ) → bytes_eq y x ≡ false → bytes_eq x y ≡ false
  turned x y e = by (bytes_eq x y) refl where
    by : (b : Bool) → bytes_eq x y ≡ b → bytes_eq x y ≡ false
    by true f = absurd (true≢false (sym ((bytes_eq-Decides y x).1 (sym ((bytes_eq-Decides x y).0 f))) ∙ e))
    by false f = f

-- where names are apart, a group that is found by its name is the only one of this name
pub named_is : (name : List ℕ) (gs : List Group) (g : Group) → AreApart gs → find (is_named name) gs ≡ Some g → AllByRecursion (λ h. is_named name h ≡ true → h ≡ g) gs
named_is name [] g apart e = tt
named_is name (h ∷ hs) g apart e = by (is_named name h) refl e (named_is name hs g apart.1) where
  clash : (x : Group) → is_named name h ≡ true → is_named h.name x ≡ false → is_named name x ≡ true → x ≡ g
  clash x f other here = absurd (true≢false (sym here ∙ subst (λ (y : List ℕ). bytes_eq x.name y ≡ false) ((bytes_eq-Decides h.name name).0 f) other))

  by : (b : Bool) → is_named name h ≡ b → cond b (Some h) (find (is_named name) hs) ≡ Some g
      → (find (is_named name) hs ≡ Some g → AllByRecursion (λ h. is_named name h ≡ true → h ≡ g) hs)
      → (is_named name h ≡ true → h ≡ g) × AllByRecursion (λ h. is_named name h ≡ true → h ≡ g) hs
  by true f e r = ((λ _. same_Some h g e), all_weaker _ _ (λ x other. clash x f other) hs apart.0)
  by false f e r = ((λ y. absurd (true≢false (sym y ∙ f))), r e)
