-- A move that changes the members of one group.
use Rattle.std.proofs.Common.{◌≡◌, ℕ, zero, suc, ◌+◌, ◌<◌, ◌==◌, Bool, true, false, cond, not, nat_lt, List, [], ◌∷◌, ◌++◌, map, length, get_or, slice_set, refl, sym, ap, subst, ◌∙◌, arith, append-nil}
use Rattle.std.specs.Prelude.{Some, None}
use Rattle.std.specs.List.{AllByRecursion, find, position, position_or_len}
use Rattle.std.specs.Str.{bytes_eq}
use Rattle.std.proofs.lemmas.Option.{none-some, same_Some}
use Rattle.std.proofs.lemmas.Slice.Eq.{bytes_eq-Decides}
use Rattle.group_coordinator.specs.declared.values.Refusal.{Refusal}
use Rattle.group_coordinator.specs.Members.{Member, has_id, beat}
use Rattle.group_coordinator.specs.Groups.{Group, Move, stays}
use Rattle.group_coordinator.specs.Joining.{with_member, plainly, heartbeat}
use Rattle.group_coordinator.specs.Coordinators.{Groups, is_named, kept, move_each, only, committed}
use Rattle.group_coordinator.specs.Doing.{Noted, HasRoom, pending, pending_of, pending_in}
use Rattle.group_coordinator.specs.Keeping.{AreApart, ArePeopled}
use Rattle.group_coordinator.proofs.Places.{not_found}

-- ---- groups that no move changes

pub record Leaves (a : Move) (n : ℕ) (gs hs : List Group) : Type 0 where
  pub groups : (move_each a n gs).groups ≡ hs
  pub generations : (move_each a n gs).generations ≡ n
  pub refusals : (move_each a n gs).refusals ≡ []

pub kept_some : (g : Group) → nat_lt 0 (length g.members) ≡ true → kept g ≡ g ∷ []
kept_some g e = by (0 == length g.members) refl where
  by : (b : Bool) → (0 == length g.members) ≡ b → cond b [] (g ∷ []) ≡ g ∷ []
  by true f = absurd (grind (arith, e, f))
  by false f = refl

-- a group goes on as another one, and the rest as it does
pub one_then : (a : Move) (n : ℕ) (g h : Group) (gs hs : List Group) → a n g ≡ record { group = h; generations = n; refusals = [] } → nat_lt 0 (length h.members) ≡ true
    → Leaves a n gs hs → Leaves a n (g ∷ gs) (h ∷ hs)
one_then a n g h gs hs is some rest = record {
  groups = (λ i. kept (is i).group ++ (move_each a (is i).generations gs).groups) ∙ (λ i. kept_some h some i ++ rest.groups i);
  generations = (λ i. (move_each a (is i).generations gs).generations) ∙ rest.generations;
  refusals = (λ i. (is i).refusals ++ (move_each a (is i).generations gs).refusals) ∙ rest.refusals;
}

pub all_stay : (name : List ℕ) (a : Move) (n : ℕ) (gs : List Group) → AllByRecursion (λ g. is_named name g ≡ false) gs → ArePeopled gs → Leaves (only name a) n gs gs
all_stay name a n [] others some = record { groups = refl; generations = refl; refusals = refl }
all_stay name a n (g ∷ gs) others some = one_then (only name a) n g g gs gs (ap (λ (b : Bool). cond b (a n g) (stays n g)) others.0) some.0 (all_stay name a n gs others.1 some.1)

-- one group changes, at its place
one_changed : (name : List ℕ) (f : Group → Group) → ((g : Group) → length (f g).members ≡ length g.members) → (n : ℕ) (gs : List Group) → AreApart gs → ArePeopled gs
    → (d : Group) → nat_lt (position_or_len (is_named name) gs) (length gs) ≡ true
    → Leaves (only name (plainly f)) n gs (slice_set gs (position_or_len (is_named name) gs) (f (get_or gs (position_or_len (is_named name) gs) d)))
one_changed name f same n [] apart some d e = absurd (grind (arith, e))
one_changed name f same n (g ∷ gs) apart some d e = by (is_named name g) refl e (one_changed name f same n gs apart.1 some.1 d) where
  a : Move
  a = plainly f

  others : is_named name g ≡ true → AllByRecursion (λ h. is_named name h ≡ false) gs
  others f = subst (λ (x : List ℕ). AllByRecursion (λ h. is_named x h ≡ false) gs) ((bytes_eq-Decides g.name name).0 f) apart.0

  p : ℕ
  p = position_or_len (is_named name) gs

  by : (b : Bool) → is_named name g ≡ b → nat_lt (cond (not b) (1 + p) 0) (length (g ∷ gs)) ≡ true
      → (nat_lt p (length gs) ≡ true → Leaves (only name (plainly f)) n gs (slice_set gs p (f (get_or gs p d))))
      → Leaves (only name (plainly f)) n (g ∷ gs) (slice_set (g ∷ gs) (cond (not b) (1 + p) 0) (f (get_or (g ∷ gs) (cond (not b) (1 + p) 0) d)))
  by true i e r = one_then (only name (plainly f)) n g (f g) gs gs (ap (λ (b : Bool). cond b (plainly f n g) (stays n g)) i) (ap (λ (l : ℕ). nat_lt 0 l) (same g) ∙ some.0)
      (all_stay name (plainly f) n gs (others i) some.1)
  by false i e r =
      let next : suc p ≡ 1 + p = omega arith in
      subst (λ (k : ℕ). Leaves (only name (plainly f)) n (g ∷ gs) (slice_set (g ∷ gs) k (f (get_or (g ∷ gs) k d)))) next
      (one_then (only name (plainly f)) n g g gs _ (ap (λ (b : Bool). cond b (plainly f n g) (stays n g)) i) some.0 (r (grind (arith, e))))

-- ---- a commit that was done

abbrev beats : (v : Groups) (id : List ℕ) → Group → Group
beats v id g = with_member id (beat v.now) g

length_mapped : {X Y : Type 0} (f : X → Y) (xs : List X) → length (map f xs) ≡ length xs
length_mapped f [] = refl
length_mapped f (x ∷ xs) = λ i. suc (length_mapped f xs i)

same_length : (v : Groups) (id : List ℕ) (g : Group) → length (beats v id g).members ≡ length g.members
same_length v id g = length_mapped _ g.members

after_leaves : (v : Groups) (name id : List ℕ) (hs : List Group) → Leaves (only name (heartbeat v.now id)) v.generations v.groups hs → (record v { groups = hs }) ≡ committed name id v
after_leaves v name id hs l = λ i. record v {
  groups = sym l.groups i;
  generations = sym l.generations i;
  refused = (sym (append-nil v.refused) ∙ ap (λ (rs : List Refusal). v.refused ++ rs) (sym l.refusals)) i;
}

-- no group has this name
pub none_named : (name : List ℕ) (gs : List Group) → find (is_named name) gs ≡ None → AllByRecursion (λ g. is_named name g ≡ false) gs
none_named name [] e = tt
none_named name (g ∷ gs) e = by (is_named name g) refl e (none_named name gs) where
  by : (b : Bool) → is_named name g ≡ b → cond b (Some g) (find (is_named name) gs) ≡ None → (find (is_named name) gs ≡ None → AllByRecursion (λ g. is_named name g ≡ false) gs)
      → (is_named name g ≡ false) × AllByRecursion (λ g. is_named name g ≡ false) gs
  by true f e r = absurd (none-some g (sym e))
  by false f e r = (f, r e)

-- a group of that name isn't there
pub committed_none : (v : Groups) (name id : List ℕ) → ArePeopled v.groups → position (is_named name) v.groups ≡ None → v ≡ committed name id v
committed_none v name id some e =
    after_leaves v name id v.groups (all_stay name (heartbeat v.now id) v.generations v.groups (none_named name v.groups (not_found (is_named name) v.groups e)) some)

-- the group of that name beats
pub committed_some : (v : Groups) (name id : List ℕ) (i : ℕ) (g h : Group) → AreApart v.groups → ArePeopled v.groups → position (is_named name) v.groups ≡ Some i
    → g ≡ get_or v.groups i g → h ≡ with_member id (beat v.now) g → (record v { groups = slice_set v.groups i h }) ≡ committed name id v
committed_some v name id i g h apart some e at made = by (nat_lt (position_or_len (is_named name) v.groups) (length v.groups)) refl e where
  by : (b : Bool) → nat_lt (position_or_len (is_named name) v.groups) (length v.groups) ≡ b → cond b (Some (position_or_len (is_named name) v.groups)) None ≡ Some i
      → (record v { groups = slice_set v.groups i h }) ≡ committed name id v
  by false f e = absurd (none-some i e)
  by true f e =
      let place = same_Some (position_or_len (is_named name) v.groups) i e in
      let there = one_changed name (beats v id) (same_length v id) v.generations v.groups apart some g f in
      let set_same : slice_set v.groups i h ≡ slice_set v.groups (position_or_len (is_named name) v.groups) (beats v id (get_or v.groups (position_or_len (is_named name) v.groups) g)) =
      (λ k. slice_set v.groups i ((made ∙ ap (beats v id) at) k)) ∙ (λ k. slice_set v.groups (sym place k) (beats v id (get_or v.groups (sym place k) g))) in
      (λ k. record v { groups = set_same k }) ∙ after_leaves v name id _ there

-- ---- what is kept stays so

others_set : (x : List ℕ) (gs : List Group) (i : ℕ) (g h : Group) → i < length gs → g ≡ get_or gs i g → h.name ≡ g.name → AllByRecursion (λ y. is_named x y ≡ false) gs
    → AllByRecursion (λ y. is_named x y ≡ false) (slice_set gs i h)
others_set x [] i g h low at is all = tt
others_set x (y ∷ ys) zero g h low at is all = (subst (λ (n : List ℕ). bytes_eq n x ≡ false) (sym (is ∙ ap (λ (z : Group). z.name) at)) all.0, all.1)
others_set x (y ∷ ys) (suc i) g h low at is all = (all.0, others_set x ys i g h (omega (arith, low)) at is all.1)

pub apart_set : (gs : List Group) (i : ℕ) (g h : Group) → i < length gs → g ≡ get_or gs i g → h.name ≡ g.name → AreApart gs → AreApart (slice_set gs i h)
apart_set [] i g h low at is apart = tt
apart_set (y ∷ ys) zero g h low at is apart = (subst (λ (n : List ℕ). AllByRecursion (λ z. is_named n z ≡ false) ys) (sym (is ∙ ap (λ (z : Group). z.name) at)) apart.0, apart.1)
apart_set (y ∷ ys) (suc i) g h low at is apart = (others_set y.name ys i g h (omega (arith, low)) at is apart.0, apart_set ys i g h (omega (arith, low)) at is apart.1)

pub peopled_set : (gs : List Group) (i : ℕ) (g h : Group) → i < length gs → g ≡ get_or gs i g → length h.members ≡ length g.members → ArePeopled gs → ArePeopled (slice_set gs i h)
peopled_set [] i g h low at is all = tt
peopled_set (y ∷ ys) zero g h low at is all = (ap (λ (l : ℕ). nat_lt 0 l) (is ∙ ap (λ (z : Group). length z.members) at) ∙ all.0, all.1)
peopled_set (y ∷ ys) (suc i) g h low at is all = (all.0, peopled_set ys i g h (omega (arith, low)) at is all.1)

pending_beat : (now : ℕ) (id : List ℕ) (ms : List Member) → pending_of (map (λ m. cond (has_id id m) (beat now m) m) ms) ≡ pending_of ms
pending_beat now id [] = refl
pending_beat now id (m ∷ ms) = by (has_id id m) (pending_beat now id ms) where
  by : (b : Bool) → pending_of (map (λ m. cond (has_id id m) (beat now m) m) ms) ≡ pending_of ms
      → pending (cond b (beat now m) m).wait + pending_of (map (λ m. cond (has_id id m) (beat now m) m) ms) ≡ pending m.wait + pending_of ms
  by true r = λ i. pending m.wait + r i
  by false r = λ i. pending m.wait + r i

-- as many wait as before
pub pending_set : (now : ℕ) (id : List ℕ) (gs : List Group) (i : ℕ) (g h : Group) → i < length gs → g ≡ get_or gs i g → h ≡ with_member id (beat now) g → pending_in (slice_set gs i h) ≡ pending_in gs
pending_set now id [] i g h low at made = refl
pending_set now id (y ∷ ys) zero g h low at made =
    (λ j. pending_of (made j).members + pending_in ys) ∙ (λ j. pending_beat now id g.members j + pending_in ys) ∙ (λ j. pending_of (at j).members + pending_in ys)
pending_set now id (y ∷ ys) (suc i) g h low at made = λ j. pending_of y.members + pending_set now id ys i g h (omega (arith, low)) at made j

-- both, of a group of which a member beats
pub beat_set : (now : ℕ) (id : List ℕ) (gs : List Group) (i : ℕ) (g h : Group) → i < length gs → g ≡ get_or gs i g → h ≡ with_member id (beat now) g → AreApart gs × ArePeopled gs
    → AreApart (slice_set gs i h) × ArePeopled (slice_set gs i h)
beat_set now id gs i g h low at made both = (
  apart_set gs i g h low at (ap (λ (x : Group). x.name) made) both.0,
  peopled_set gs i g h low at (ap (λ (x : Group). length x.members) made ∙ length_mapped _ g.members) both.1,
)

-- ---- the same of the group at an index, whichever it is

pub at_index : (gs : List Group) (i : ℕ) → i < length gs → (g : Group) × (g ≡ get_or gs i g)
at_index [] i low = absurd (omega (arith, low))
at_index (y ∷ ys) zero low = (y, refl)
at_index (y ∷ ys) (suc i) low = at_index ys i (omega (arith, low))

pub beaten_both : (now : ℕ) (id : List ℕ) (gs hs : List Group) (i : ℕ) → i < length gs → ((g : Group) → g ≡ get_or gs i g → hs ≡ slice_set gs i (with_member id (beat now) g)) → AreApart gs × ArePeopled gs → AreApart hs × ArePeopled hs
beaten_both now id gs hs i low made both =
    let at = at_index gs i low in
    let there = beat_set now id gs i at.0 (with_member id (beat now) at.0) low at.1 refl both in
    (subst AreApart (sym (made at.0 at.1)) there.0, subst ArePeopled (sym (made at.0 at.1)) there.1)

pub beaten_room : (l : Noted) (now : ℕ) (id : List ℕ) (gs hs : List Group) (i : ℕ) → i < length gs → ((g : Group) → g ≡ get_or gs i g → hs ≡ slice_set gs i (with_member id (beat now) g)) → HasRoom l (pending_in gs)
    → HasRoom l (pending_in hs)
beaten_room l now id gs hs i low made room =
    let at = at_index gs i low in
    subst (λ (n : ℕ). HasRoom l n) (sym (pending_set now id gs i at.0 (with_member id (beat now) at.0) low at.1 refl) ∙ ap pending_in (sym (made at.0 at.1))) room

pub committed_at : (v : Groups) (name id : List ℕ) (hs : List Group) (i : ℕ) → i < length v.groups → AreApart v.groups → ArePeopled v.groups → position (is_named name) v.groups ≡ Some i
    → ((g : Group) → g ≡ get_or v.groups i g → hs ≡ slice_set v.groups i (with_member id (beat v.now) g)) → (record v { groups = hs }) ≡ committed name id v
committed_at v name id hs i low apart some e made =
    let at = at_index v.groups i low in
    (λ j. record v { groups = made at.0 at.1 j }) ∙ committed_some v name id i at.0 (with_member id (beat v.now) at.0) apart some e at.1 refl
