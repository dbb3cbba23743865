-- Before its first time nothing of a group changes by itself.
use Rattle.std.proofs.Common.{◌≡◌, ℕ, zero, suc, ◌<◌, ◌≤◌, ◌==◌, Bool, true, false, cond, not, nat_le, nat_lt, min, List, [], ◌∷◌, ◌++◌, map, length, get_or, set, slice_set, refl, sym, ap, subst, ◌∙◌, arith, append-nil, length-set}
use Rattle.std.specs.Prelude.{◌&&◌, ◌||◌, IfSome, Option, Some, None}
use Rattle.std.specs.List.{AllByRecursion, filter, flat_map, fold, list_all, list_any, reduce, find}
use Rattle.std.specs.Option.{is_none}
use Rattle.std.proofs.lemmas.List.{get_or-set_same}
use Rattle.group_coordinator.specs.declared.values.Phase.{Phase}
use Rattle.group_coordinator.specs.declared.values.Phase.TheVariants.{Preparing, Completing, Stable}
use Rattle.group_coordinator.specs.declared.values.Refusal.{Refusal}
use Rattle.group_coordinator.specs.declared.values.Settings.{Settings}
use Rattle.group_coordinator.specs.declared.values.Wait.{Wait}
use Rattle.group_coordinator.specs.declared.values.Wait.TheVariants.{No, Joins, Syncs, Told, Assigned}
use Rattle.group_coordinator.specs.Members.{Member, is_in, is_joining, is_ready, is_syncing}
use Rattle.group_coordinator.specs.Groups.{Group, Move, stays, settle, complete, is_complete, and_then, drop_those, prepare, new_group}
use Rattle.group_coordinator.specs.Joining.{waits, with_last}
use Rattle.group_coordinator.specs.Coordinators.{Groups, kept, sent, sent_group, is_named}
use Rattle.group_coordinator.specs.Times.{expire, expire_group, group_times, is_overdue, is_silent, is_waiting, next_time, phase_times}
use Rattle.group_coordinator.specs.Least.{earliest, member_times}
use Rattle.group_coordinator.specs.Due.{ComesFirst, IsNoLater, is_due, may_begin, turning_times}
use Rattle.group_coordinator.specs.Doing.{DoesAt, Noted, put_back}
use Rattle.group_coordinator.specs.Entering.{Enters, opened}
use Rattle.group_coordinator.specs.Giving.{DoesStaying, DoesStayingAt}
use Rattle.group_coordinator.specs.Keeping.{ArePeopled}
use Rattle.group_coordinator.proofs.Least.{some_least, times_more}
use Rattle.group_coordinator.proofs.Places.{same_at, within}
use Rattle.group_coordinator.proofs.Keeping.{Leaves, at_index, one_then}

-- ---- the least time

fold_below : (d : ℕ) (ts : List ℕ) → fold min d ts ≤ d
fold_below d [] = omega arith
fold_below d (t ∷ ts) = omega (arith, fold_below (min d t) ts)

lowered : (d e : ℕ) (ts : List ℕ) → e ≤ d → AllByRecursion (λ t. IsNoLater (Some d) t) ts → AllByRecursion (λ t. IsNoLater (Some e) t) ts
lowered d e [] low all = tt
lowered d e (t ∷ ts) low all = (omega (arith, low, all.0), lowered d e ts low all.1)

fold_first : (d : ℕ) (ts : List ℕ) → AllByRecursion (λ t. IsNoLater (Some (fold min d ts)) t) ts
fold_first d [] = tt
fold_first d (t ∷ ts) = (omega (arith, fold_below (min d t) ts), fold_first (min d t) ts)

-- the earliest of some times is no later than each
earliest_first : (due : Option ℕ) (ts : List ℕ) → AllByRecursion (λ t. IsNoLater (earliest due ts) t) ts
earliest_first None [] = tt
earliest_first None (t ∷ ts) = subst (λ (r : Option ℕ). AllByRecursion (λ x. IsNoLater r x) (t ∷ ts)) (sym (some_least t ts)) (fold_below t ts, fold_first t ts)
earliest_first (Some d) ts = subst (λ (r : Option ℕ). AllByRecursion (λ x. IsNoLater r x) ts) (sym (some_least d ts)) (fold_first d ts)

-- and no later than the one before
earliest_lower : (due : Option ℕ) (ts us : List ℕ) → AllByRecursion (λ t. IsNoLater due t) us → AllByRecursion (λ t. IsNoLater (earliest due ts) t) us
earliest_lower due ts [] all = tt
earliest_lower None ts (u ∷ us) all = absurd all.0
earliest_lower (Some d) ts (u ∷ us) all =
    subst (λ (r : Option ℕ). AllByRecursion (λ x. IsNoLater r x) (u ∷ us)) (sym (some_least d ts)) (lowered d (fold min d ts) (u ∷ us) (fold_below d ts) all)

-- ---- groups

groups_lower : (due : Option ℕ) (ts : List ℕ) (gs : List Group) → ComesFirst due gs → ComesFirst (earliest due ts) gs
groups_lower due ts [] all = tt
groups_lower due ts (g ∷ gs) all = (earliest_lower due ts (turning_times g) all.0, groups_lower due ts gs all.1)

groups_first : (due : Option ℕ) (gs : List Group) → ComesFirst (earliest due (flat_map turning_times gs)) gs
groups_first due [] = tt
groups_first due (g ∷ gs) = (
  subst (λ (r : Option ℕ). AllByRecursion (λ t. IsNoLater r t) (turning_times g)) (sym parts) (earliest_lower (earliest due (turning_times g)) (flat_map turning_times gs) (turning_times g) (earliest_first due (turning_times g))),
  subst (λ (r : Option ℕ). ComesFirst r gs) (sym parts) (groups_first (earliest due (turning_times g)) gs),
) where
  parts : earliest due (flat_map turning_times (g ∷ gs)) ≡ earliest (earliest due (turning_times g)) (flat_map turning_times gs)
  parts = times_more due (turning_times g) (flat_map turning_times gs)

pub first_of_all : (r : Option ℕ) (gs : List Group) → r ≡ earliest None (flat_map turning_times gs) → ComesFirst r gs
first_of_all r gs is = subst (λ (x : Option ℕ). ComesFirst x gs) (sym is) (groups_first None gs)

-- one group is another one, or goes
kept_first : (r : Option ℕ) (h : Group) (gs : List Group) → AllByRecursion (λ t. IsNoLater r t) (turning_times h) → ComesFirst r gs → ComesFirst r (kept h ++ gs)
kept_first r h gs one all = by (0 == length h.members) where
  by : (b : Bool) → ComesFirst r (cond b [] (h ∷ []) ++ gs)
  by true = all
  by false = (one, all)

back_first : (r : Option ℕ) (gs : List Group) (i : ℕ) (h : Group) → i < length gs → AllByRecursion (λ t. IsNoLater r t) (turning_times h) → ComesFirst r gs → ComesFirst r (put_back gs i h)
back_first r [] i h low one all = absurd (omega (arith, low))
back_first r (y ∷ ys) zero h low one all = kept_first r h ys one all.1
back_first r (y ∷ ys) (suc i) h low one all = (all.0, back_first r ys i h (omega (arith, low)) one all.1)

set_first : (r : Option ℕ) (gs : List Group) (i : ℕ) (h : Group) → AllByRecursion (λ t. IsNoLater r t) (turning_times h) → ComesFirst r gs → ComesFirst r (set gs i h)
set_first r [] i h one all = tt
set_first r (y ∷ ys) zero h one all = (one, all.1)
set_first r (y ∷ ys) (suc i) h one all = (all.0, set_first r ys i h one all.1)

at_first : (r : Option ℕ) (gs : List Group) (i : ℕ) (g : Group) → i < length gs → g ≡ get_or gs i g → ComesFirst r gs → AllByRecursion (λ t. IsNoLater r t) (turning_times g)
at_first r [] i g low at all = absurd (omega (arith, low))
at_first r (y ∷ ys) zero g low at all = subst (λ (x : Group). AllByRecursion (λ t. IsNoLater r t) (turning_times x)) (sym at) all.0
at_first r (y ∷ ys) (suc i) g low at all = at_first r ys i g (omega (arith, low)) at all.1

-- the group at an index changed
pub changed_first : (due r : Option ℕ) (vs hs : List Group) (i : ℕ) (h q : Group) → i < length vs → hs ≡ slice_set vs i h → q ≡ get_or hs i q → r ≡ earliest due (turning_times q) → ComesFirst due vs → ComesFirst r hs
changed_first due r vs hs i h q low made at is all =
    subst (ComesFirst r) (sym made) (set_first r vs i h (subst (λ (x : Group). AllByRecursion (λ t. IsNoLater r t) (turning_times x)) same first)
    (subst (λ (x : Option ℕ). ComesFirst x vs) (sym is) (groups_lower due (turning_times q) vs all))) where
      first : AllByRecursion (λ t. IsNoLater r t) (turning_times q)
      first = subst (λ (x : Option ℕ). AllByRecursion (λ t. IsNoLater x t) (turning_times q)) (sym is) (earliest_first due (turning_times q))

      same : q ≡ h
      same = at ∙ (λ j. get_or (made j) i q) ∙ get_or-set_same vs i h q low

-- and goes if it has no members
pub left_first : (due r : Option ℕ) (vs hs gs : List Group) (i : ℕ) (h q : Group) → i < length vs → hs ≡ slice_set vs i h → q ≡ get_or hs i q → r ≡ earliest due (turning_times q) → ComesFirst due vs
    → ((g : Group) → g ≡ get_or hs i g → gs ≡ put_back hs i g) → ComesFirst r gs
left_first due r vs hs gs i h q low made at is all back =
    let first = changed_first due r vs hs i h q low made at is all in
    let low_there : i < length hs = omega (arith, low, ap length made, length-set vs i h) in
    subst (ComesFirst r) (sym (back q at)) (back_first r hs i q low_there (at_first r hs i q low_there at first) first)

-- ---- replies that were sent

-- what a member waits for stays, but for a reply that is ready
sent_as : (f : Wait → Bool) → ((j : ℕ) → f (Told j) ≡ f No) → ((j : ℕ) → f (Assigned j) ≡ f No) → (k : ℕ) (m : Member) → f (sent k m).wait ≡ f m.wait
sent_as f told assigned k m = by m.wait where
  by : (w : Wait) → f (sent k (record m { wait = w })).wait ≡ f w
  by No = refl
  by (Joins j) = at (j == k) where
    at : (b : Bool) → f (cond (b && false) (waits No (record m { wait = Joins j })) (record m { wait = Joins j })).wait ≡ f (Joins j)
    at true = refl
    at false = refl
  by (Syncs j) = at (j == k) where
    at : (b : Bool) → f (cond (b && false) (waits No (record m { wait = Syncs j })) (record m { wait = Syncs j })).wait ≡ f (Syncs j)
    at true = refl
    at false = refl
  by (Told j) = at (j == k) where
    at : (b : Bool) → f (cond (b && true) (waits No (record m { wait = Told j })) (record m { wait = Told j })).wait ≡ f (Told j)
    at true = sym (told j)
    at false = refl
  by (Assigned j) = at (j == k) where
    at : (b : Bool) → f (cond (b && true) (waits No (record m { wait = Assigned j })) (record m { wait = Assigned j })).wait ≡ f (Assigned j)
    at true = sym (assigned j)
    at false = refl

sent_until : (k : ℕ) (m : Member) → (sent k m).until ≡ m.until
sent_until k m = by (is_in k m.wait && is_ready m.wait) where
  by : (b : Bool) → (cond b (waits No m) m).until ≡ m.until
  by true = refl
  by false = refl

sent_joining : (k : ℕ) (ms : List Member) → list_all (λ m. is_joining m.wait) (map (sent k) ms) ≡ list_all (λ m. is_joining m.wait) ms
sent_joining k [] = refl
sent_joining k (m ∷ ms) = λ i. sent_as is_joining (λ j. refl) (λ j. refl) k m i && sent_joining k ms i

sent_times : (k : ℕ) (ms : List Member) → member_times (map (sent k) ms) ≡ member_times ms
sent_times k [] = refl
sent_times k (m ∷ ms) = by (is_waiting m) (is_waiting (sent k m)) (sent_as (λ w. is_joining w || is_syncing w) (λ j. refl) (λ j. refl) k m) (sent_times k ms) where
  by : (b c : Bool) → c ≡ b → member_times (map (sent k) ms) ≡ member_times ms
      → map (λ x. x.until) (cond (not c) (sent k m ∷ filter (λ x. not (is_waiting x)) (map (sent k) ms)) (filter (λ x. not (is_waiting x)) (map (sent k) ms)))
      ≡ map (λ x. x.until) (cond (not b) (m ∷ filter (λ x. not (is_waiting x)) ms) (filter (λ x. not (is_waiting x)) ms))
  by true true e r = r
  by false false e r = λ i. sent_until k m i ∷ r i
  by true false e r = absurd (grind (arith, e))
  by false true e r = absurd (grind (arith, e))

sent_begins : (k : ℕ) (g : Group) → may_begin (sent_group k g) g.phase ≡ may_begin g g.phase
sent_begins k g = by g.phase where
  by : (p : Phase) → may_begin (sent_group k g) p ≡ may_begin g p
  by (Preparing t) = λ i. nat_lt 0 g.generation && sent_joining k g.members i
  by (Completing t) = refl
  by Stable = refl

sent_turning : (k : ℕ) (g : Group) → turning_times (sent_group k g) ≡ turning_times g
sent_turning k g = λ i. cond (sent_begins k g i) (0 ∷ []) [] ++ (phase_times g.phase ++ sent_times k g.members i)

sent_groups : (due : Option ℕ) (k : ℕ) (gs : List Group) → ComesFirst due gs → ComesFirst due (map (sent_group k) gs)
sent_groups due k [] all = tt
sent_groups due k (g ∷ gs) all = (subst (λ (ts : List ℕ). AllByRecursion (λ t. IsNoLater due t) ts) (sym (sent_turning k g)) all.0, sent_groups due k gs all.1)

pub sent_first : (due : Option ℕ) (k : ℕ) (gs hs : List Group) → hs ≡ map (sent_group k) gs → ComesFirst due gs → ComesFirst due hs
sent_first due k gs hs made all = subst (ComesFirst due) (sym made) (sent_groups due k gs all)

-- ---- before the first time

later : (due : Option ℕ) (now t : ℕ) → is_due due now ≡ false → IsNoLater due t → nat_le t now ≡ false
later None now t e low = absurd low
later (Some d) now t e low = grind (arith, e, low)

all_front : (P : ℕ → Type 0) (ts us : List ℕ) → AllByRecursion P (ts ++ us) → AllByRecursion P ts
all_front P [] us all = tt
all_front P (t ∷ ts) us all = (all.0, all_front P ts us all.1)

all_back : (P : ℕ → Type 0) (ts us : List ℕ) → AllByRecursion P (ts ++ us) → AllByRecursion P us
all_back P [] us all = all
all_back P (t ∷ ts) us all = all_back P ts us all.1

not_overdue : (due : Option ℕ) (now : ℕ) (p : Phase) → is_due due now ≡ false → AllByRecursion (λ t. IsNoLater due t) (phase_times p) → is_overdue now p ≡ false
not_overdue due now (Preparing t) e all = refl
not_overdue due now (Completing t) e all = later due now t e all.0
not_overdue due now Stable e all = refl

none_silent : (due : Option ℕ) (now : ℕ) (g : Group) → is_due due now ≡ false → is_overdue now g.phase ≡ false → (ms : List Member) → AllByRecursion (λ t. IsNoLater due t) (member_times ms)
    → list_any (is_silent now g) ms ≡ false
none_silent due now g e over [] all = refl
none_silent due now g e over (m ∷ ms) all = by (is_waiting m) all (none_silent due now g e over ms) where
  by : (b : Bool) → AllByRecursion (λ t. IsNoLater due t) (map (λ x. x.until) (cond (not b) (m ∷ filter (λ x. not (is_waiting x)) ms) (filter (λ x. not (is_waiting x)) ms)))
      → (AllByRecursion (λ t. IsNoLater due t) (member_times ms) → list_any (is_silent now g) ms ≡ false)
      → ((not b && (nat_le m.until now || is_overdue now g.phase)) || list_any (is_silent now g) ms) ≡ false
  by true all r = r all
  by false all r = λ i. (later due now m.until e all.0 i || over i) || r all.1 i

begins_not : (due : Option ℕ) (now : ℕ) (b : Bool) → is_due due now ≡ false → AllByRecursion (λ t. IsNoLater due t) (cond b (0 ∷ []) []) → b ≡ false
begins_not due now true e all = absurd (grind (arith, later due now 0 e all.0))
begins_not due now false e all = refl

not_complete : (due : Option ℕ) (now : ℕ) (g : Group) (p : Phase) → is_due due now ≡ false → may_begin g p ≡ false → AllByRecursion (λ t. IsNoLater due t) (phase_times p) → is_complete now g p ≡ false
not_complete due now g (Preparing t) e begins all = λ i. later due now t e all.0 i || begins i
not_complete due now g (Completing t) e begins all = refl
not_complete due now g Stable e begins all = refl

group_rests : (due : Option ℕ) (o : Settings) (now n : ℕ) (g : Group) → is_due due now ≡ false → AllByRecursion (λ t. IsNoLater due t) (turning_times g) → expire_group o now n g ≡ stays n g
group_rests due o now n g e all =
    let begins : AllByRecursion (λ t. IsNoLater due t) (cond (may_begin g g.phase) (0 ∷ []) []) = all_front (λ t. IsNoLater due t) (cond (may_begin g g.phase) (0 ∷ []) []) (group_times g) all in
    let times : AllByRecursion (λ t. IsNoLater due t) (group_times g) = all_back (λ t. IsNoLater due t) (cond (may_begin g g.phase) (0 ∷ []) []) (group_times g) all in
    let phase : AllByRecursion (λ t. IsNoLater due t) (phase_times g.phase) = all_front (λ t. IsNoLater due t) (phase_times g.phase) (member_times g.members) times in
    let members : AllByRecursion (λ t. IsNoLater due t) (member_times g.members) = all_back (λ t. IsNoLater due t) (phase_times g.phase) (member_times g.members) times in
    let silent = none_silent due now g e (not_overdue due now g.phase e phase) g.members members in
    let whole = not_complete due now g g.phase e (begins_not due now (may_begin g g.phase) e begins) phase in
    (λ i. cond (silent i) (and_then (drop_those (is_silent now g)) (and_then (prepare o now) (settle now)) n g) (settle now n g)) ∙ (λ i. cond (whole i) (complete now n g) (stays n g))

groups_rest : (due : Option ℕ) (o : Settings) (now n : ℕ) (gs : List Group) → is_due due now ≡ false → ComesFirst due gs → ArePeopled gs → Leaves (expire_group o now) n gs gs
groups_rest due o now n [] e all some = record { groups = refl; generations = refl; refusals = refl }
groups_rest due o now n (g ∷ gs) e all some = one_then (expire_group o now) n g g gs gs (group_rests due o now n g e all.0) some.0 (groups_rest due o now n gs e all.1 some.1)

-- nothing expires
pub rests : (due : Option ℕ) (v : Groups) → is_due due v.now ≡ false → ComesFirst due v.groups → ArePeopled v.groups → v ≡ expire v
rests due v e all some =
    let l = groups_rest due v.settings v.now v.generations v.groups e all some in
    λ i. record v {
      groups = sym l.groups i;
      generations = sym l.generations i;
      refused = (sym (append-nil v.refused) ∙ ap (λ (rs : List Refusal). v.refused ++ rs) (sym l.refusals)) i;
    }

-- ---- the time before which nothing expires

all_more : (P : ℕ → Type 0) (ts us : List ℕ) → AllByRecursion P ts → AllByRecursion P us → AllByRecursion P (ts ++ us)
all_more P [] us all others = others
all_more P (t ∷ ts) us all others = (all.0, all_more P ts us all.1 others)

all_times : (due : Option ℕ) (gs : List Group) → ComesFirst due gs → AllByRecursion (λ t. IsNoLater due t) (flat_map group_times gs)
all_times due [] all = tt
all_times due (g ∷ gs) all =
    all_more (λ t. IsNoLater due t) (group_times g) (flat_map group_times gs) (all_back (λ t. IsNoLater due t) (cond (may_begin g g.phase) (0 ∷ []) []) (group_times g) all.0) (all_times due gs all.1)

least_later : (due : Option ℕ) (a : ℕ) (ts : List ℕ) → IsNoLater due a → AllByRecursion (λ t. IsNoLater due t) ts → IsNoLater due (fold min a ts)
least_later due a [] one all = one
least_later None a (t ∷ ts) one all = absurd one
least_later (Some d) a (t ∷ ts) one all = least_later (Some d) (min a t) ts (omega (arith, one, all.0)) all.1

reduced : (due : Option ℕ) (ts : List ℕ) → AllByRecursion (λ t. IsNoLater due t) ts → IfSome (reduce min ts) (λ t. IsNoLater due t)
reduced due [] all = tt
reduced due (t ∷ ts) all = least_later due t ts all.0 all.1

pub due_before : (due : Option ℕ) (v : Groups) → ComesFirst due v.groups → IfSome (next_time v) (λ t. IsNoLater due t)
due_before due v all = reduced due (flat_map group_times v.groups) (all_times due v.groups all)

-- ---- the group at an index, whichever it is

-- it moved, and goes if it has no members
pub moved_first : (a : Move) (l k : Noted) (due r : Option ℕ) (vs hs gs : List Group) (i : ℕ) (q : Group) → i < length vs → DoesAt a l k i vs hs → q ≡ get_or hs i q → r ≡ earliest due (turning_times q) → ComesFirst due vs
    → ((g : Group) → g ≡ get_or hs i g → gs ≡ put_back hs i g) → ComesFirst r gs
moved_first a l k due r vs hs gs i q low does at is all back =
    let there = at_index vs i low in
    let d = does there.0 there.1 in
    left_first due r vs hs gs i d.0 q low d.2 at is all back

-- it changed
pub set_to_first : (f : Group → Group) (due r : Option ℕ) (vs hs : List Group) (i : ℕ) (q : Group) → i < length vs → ((g : Group) → g ≡ get_or vs i g → hs ≡ slice_set vs i (f g)) → q ≡ get_or hs i q
    → r ≡ earliest due (turning_times q) → ComesFirst due vs → ComesFirst r hs
set_to_first f due r vs hs i q low made at is all =
    let there = at_index vs i low in
    changed_first due r vs hs i (f there.0) q low (made there.0 there.1) at is all

pub set_long : (f : Group → Group) (vs hs : List Group) (i : ℕ) → i < length vs → ((g : Group) → g ≡ get_or vs i g → hs ≡ slice_set vs i (f g)) → i < length hs
set_long f vs hs i low made =
    let there = at_index vs i low in
    omega (arith, low, ap length (made there.0 there.1), length-set vs i (f there.0))

-- it changed, and stays
pub staying_first : (a : Move) (l k : Noted) (due r : Option ℕ) (vs hs : List Group) (i : ℕ) (q : Group) → i < length vs → DoesStayingAt a l k i vs hs → q ≡ get_or hs i q → r ≡ earliest due (turning_times q) → ComesFirst due vs → ComesFirst r hs
staying_first a l k due r vs hs i q low does at is all =
    let there = at_index vs i low in
    let d = does there.0 there.1 in
    changed_first due r vs hs i d.0 q low d.2 at is all

pub staying_long : (a : Move) (l k : Noted) (vs hs : List Group) (i : ℕ) → i < length vs → DoesStayingAt a l k i vs hs → i < length hs
staying_long a l k vs hs i low does =
    let there = at_index vs i low in
    let d = does there.0 there.1 in
    omega (arith, low, ap length d.2, length-set vs i d.0)

-- ---- a member that joins

last_joining : (m : Member) (ms : List Member) → is_joining m.wait ≡ true → list_all (λ x. is_joining x.wait) (ms ++ m ∷ []) ≡ list_all (λ x. is_joining x.wait) ms
last_joining m [] e = λ i. e i && true
last_joining m (x ∷ xs) e = λ i. is_joining x.wait && last_joining m xs e i

last_times : (m : Member) (ms : List Member) → is_joining m.wait ≡ true → member_times (ms ++ m ∷ []) ≡ member_times ms
last_times m [] e = λ i. map (λ x. x.until) (cond (not (e i || is_syncing m.wait)) (m ∷ []) [])
last_times m (x ∷ xs) e = by (is_waiting x) (last_times m xs e) where
  by : (b : Bool) → member_times (xs ++ m ∷ []) ≡ member_times xs
      → map (λ y. y.until) (cond (not b) (x ∷ filter (λ y. not (is_waiting y)) (xs ++ m ∷ [])) (filter (λ y. not (is_waiting y)) (xs ++ m ∷ [])))
      ≡ map (λ y. y.until) (cond (not b) (x ∷ filter (λ y. not (is_waiting y)) xs) (filter (λ y. not (is_waiting y)) xs))
  by true r = r
  by false r = λ i. x.until ∷ r i

last_begins : (m : Member) (g : Group) → is_joining m.wait ≡ true → may_begin (with_last m g) g.phase ≡ may_begin g g.phase
last_begins m g e = by g.phase where
  by : (p : Phase) → may_begin (with_last m g) p ≡ may_begin g p
  by (Preparing t) = λ i. nat_lt 0 g.generation && last_joining m g.members e i
  by (Completing t) = refl
  by Stable = refl

last_turning : (m : Member) (g : Group) → is_joining m.wait ≡ true → turning_times (with_last m g) ≡ turning_times g
last_turning m g e = λ i. cond (last_begins m g e i) (0 ∷ []) [] ++ (phase_times g.phase ++ last_times m g.members e i)

more_first : (due : Option ℕ) (gs : List Group) (name kind : List ℕ) → ComesFirst due gs → ComesFirst due (gs ++ new_group name kind ∷ [])
more_first due [] name kind all = (tt, tt)
more_first due (g ∷ gs) name kind all = (all.0, more_first due gs name kind all.1)

opened_first : (due : Option ℕ) (name kind : List ℕ) (gs : List Group) → ComesFirst due gs → ComesFirst due (opened name kind gs)
opened_first due name kind gs all = by (is_none (find (is_named name) gs)) where
  by : (b : Bool) → ComesFirst due (cond b (gs ++ new_group name kind ∷ []) gs)
  by true = more_first due gs name kind all
  by false = all

pub entered_first : (due : Option ℕ) (name kind : List ℕ) (m : Member) (gs hs : List Group) → is_joining m.wait ≡ true → Enters name kind m gs hs → ComesFirst due gs → ComesFirst due hs
entered_first due name kind m gs hs e enters all =
    let i = enters.0 in
    let us = opened name kind gs in
    let low : i < length us = within (is_named name) us i enters.1 in
    let at = at_index us i low in
    let first : ComesFirst due us = opened_first due name kind gs all in
    subst (ComesFirst due) (sym (enters.2 at.0 at.1))
    (set_first due us i (with_last m at.0) (subst (λ (ts : List ℕ). AllByRecursion (λ t. IsNoLater due t) ts) (sym (last_turning m at.0 e)) (at_first due us i at.0 low at.1 first)) first)

-- the move of the group at an index, whichever it is
pub staying_at : (a : Move) (l k : Noted) (us vs : List Group) (i : ℕ) (g h : Group) → us ≡ vs → i < length vs → g ≡ get_or us i g → DoesStaying a l k g h → DoesStayingAt a l k i vs (slice_set us i h)
staying_at a l k us vs i g h same low at d x there =
    let one : g ≡ x = same_at vs i g x low (at ∙ (λ j. get_or (same j) i g)) there in
    (h, subst (λ (y : Group). DoesStaying a l k y h) one d, λ j. slice_set (same j) i h)
