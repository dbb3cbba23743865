-- A move of one group by which no member goes, among all groups; and what is counted behind a request for a part.
use Rattle.std.proofs.Common.{true≢false, ◌≡◌, ℕ, zero, suc, ◌+◌, ◌*◌, ◌/◌, ◌<◌, ◌≤◌, Bool, true, false, cond, nat_lt, List, [], ◌∷◌, ◌++◌, length, get_or, slice_set, refl, sym, ap, subst, ◌∙◌, arith, length-append}
use Rattle.std.specs.Prelude.{Option, Some, None, ◌||◌}
use Rattle.std.specs.List.{AllByRecursion, position, position_or_len, sum_by}
use Rattle.std.proofs.lemmas.Nat.{le-div}
use Rattle.std.proofs.lemmas.Option.{none-some, same_Some}
use Rattle.std.proofs.lemmas.List.Sums.{sum_by-cons}
use Rattle.group_coordinator.specs.declared.values.GroupError.TheVariants.{NotAvailable}
use Rattle.group_coordinator.specs.declared.values.TheConstants.{MOST_BYTES, MOST_GENERATION, MOST_IDS}
use Rattle.group_coordinator.specs.Members.{Member, member_bytes}
use Rattle.group_coordinator.specs.Groups.{Group, Move, group_bytes}
use Rattle.group_coordinator.specs.Requests.{Part, SyncRequest}
use Rattle.group_coordinator.specs.Requests.Reply.{Refused}
use Rattle.group_coordinator.specs.Joining.{sync}
use Rattle.group_coordinator.specs.Coordinators.{Groups, all_bytes, at_once, if_room, is_named, kept, move_each, move_one, only, release}
use Rattle.group_coordinator.specs.Keeping.{AreApart, AreCounted, AreNumbered, ArePeopled}
use Rattle.group_coordinator.specs.Doing.{Noted, HasRoom, pending_of, pending_in, put_back}
use Rattle.group_coordinator.specs.Giving.{DoesStayingAt, Planned, bytes_of_parts, gives, part_lengths, parts_by, parts_for, plan_by}
use Rattle.group_coordinator.proofs.Keeping.{apart_set, at_index, kept_some, peopled_set}
use Rattle.group_coordinator.proofs.Lifting.{LeavesOne, moved_none, one_at}
use Rattle.group_coordinator.proofs.Bytes.{IsNumbered, bytes_at, bytes_back, numbered_at, set_numbered}
use Rattle.group_coordinator.proofs.Places.{same_at}
use Rattle.group_coordinator.proofs.Syncing.{as_many, grown, pending_most}

-- ---- the group of a name moves

one_moved : (name : List ℕ) (a : Move) (v : Groups) (i : ℕ) (g : Group) → AreApart v.groups → ArePeopled v.groups → position (is_named name) v.groups ≡ Some i → g ≡ get_or v.groups i g
    → LeavesOne a v.generations name v.groups (put_back v.groups i (a v.generations g).group) g
one_moved name a v i g apart some e at = by (nat_lt (position_or_len (is_named name) v.groups) (length v.groups)) refl e where
  by : (b : Bool) → nat_lt (position_or_len (is_named name) v.groups) (length v.groups) ≡ b → cond b (Some (position_or_len (is_named name) v.groups)) None ≡ Some i
      → LeavesOne a v.generations name v.groups (put_back v.groups i (a v.generations g).group) g
  by false f e = absurd (none-some i e)
  by true f e =
      let place = same_Some (position_or_len (is_named name) v.groups) i e in
      subst (λ (j : ℕ). LeavesOne a v.generations name v.groups (put_back v.groups j (a v.generations g).group) g) place
      (one_at name a v.generations v.groups g apart some f (at ∙ (λ j. get_or v.groups (sym place j) g)))

pub set_back : (gs : List Group) (i : ℕ) (h : Group) → i < length gs → nat_lt 0 (length h.members) ≡ true → put_back gs i h ≡ slice_set gs i h
set_back [] i h low some = absurd (omega (arith, low))
set_back (y ∷ ys) zero h low some = λ j. kept_some h some j ++ ys
set_back (y ∷ ys) (suc i) h low some = λ j. y ∷ set_back ys i h (omega (arith, low)) some j

pub peopled_at : (gs : List Group) (i : ℕ) (g : Group) → i < length gs → g ≡ get_or gs i g → ArePeopled gs → nat_lt 0 (length g.members) ≡ true
peopled_at [] i g low at some = absurd (omega (arith, low))
peopled_at (y ∷ ys) zero g low at some = ap (λ (x : Group). nat_lt 0 (length x.members)) at ∙ some.0
peopled_at (y ∷ ys) (suc i) g low at some = peopled_at ys i g (omega (arith, low)) at some.1

pub moved_staying : (name : List ℕ) (a : Move) (v : Groups) (l k : Noted) (hs : List Group) (i : ℕ) → i < length v.groups → AreApart v.groups → ArePeopled v.groups → position (is_named name) v.groups ≡ Some i
    → l.generations ≡ v.generations → l.refusals ≡ v.refused → DoesStayingAt a l k i v.groups hs → (record v { groups = hs; generations = k.generations; refused = k.refusals }) ≡ move_one name a v
moved_staying name a v l k hs i low apart some e numbers refused does =
    let at = at_index v.groups i low in
    let d = does at.0 at.1 in
    let one = one_moved name a v i at.0 apart some e at.1 in
    let many : nat_lt 0 (length d.0.members) ≡ true = ap (λ (n : ℕ). nat_lt 0 n) d.1.count ∙ peopled_at v.groups i at.0 low at.1 some in
    let groups : hs ≡ (move_each (only name a) v.generations v.groups).groups =
    d.2 ∙ sym (set_back v.groups i d.0 low many) ∙ (λ j. put_back v.groups i ((d.1.group ∙ (λ p. (a (numbers p) at.0).group)) j)) ∙ sym one.groups in
    let generations : k.generations ≡ (move_each (only name a) v.generations v.groups).generations =
    ap (λ (x : Noted). x.generations) d.1.noted ∙ sym d.1.generations ∙ (λ j. (a (numbers j) at.0).generations) ∙ sym one.generations in
    let refusals : k.refusals ≡ v.refused ++ (move_each (only name a) v.generations v.groups).refusals =
    ap (λ (x : Noted). x.refusals) d.1.noted ∙ (λ j. refused j ++ (a (numbers j) at.0).refusals) ∙ (λ j. v.refused ++ sym one.refusals j) in
    λ j. record v { groups = groups j; generations = generations j; refused = refusals j }

-- ---- what is counted behind a request for a part

parts_most : (ms : List Member) → part_lengths ms ≤ sum_by member_bytes ms
parts_most [] = omega arith
parts_most (m ∷ ms) = omega (arith, sum_by-cons (λ (x : Member). length x.part) m ms, sum_by-cons member_bytes m ms, parts_most ms)

pub parts_counted : (gs : List Group) (i bytes : ℕ) (g : Group) → i < length gs → g ≡ get_or gs i g → AreCounted bytes gs → part_lengths g.members ≤ bytes
parts_counted gs i bytes g low at counted = omega (arith, parts_most g.members, bytes_at gs i g low at, counted.0)

abbrev pub behind_by : (bytes : ℕ) → List ℕ → List Part → Group → ℕ
behind_by bytes id ps g = cond (gives id g) (bytes_of_parts bytes ps g) bytes

sum_back : (now k : ℕ) (q : SyncRequest) (n : ℕ) (gs : List Group) (i bytes : ℕ) (g : Group) → i < length gs → g ≡ get_or gs i g → ArePeopled gs → AreCounted bytes gs
    → sum_by group_bytes (put_back gs i (sync now k q n g).group) ≡ behind_by bytes q.member q.parts g
sum_back now k q n gs i bytes g low at some counted =
    by (gives q.member g) (grown now k q g n (gives q.member g) refl) (bytes_back gs i g h low at) (ap (sum_by group_bytes) (kept_some h many) ∙ sum_by-cons group_bytes h []) where
      h : Group
      h = (sync now k q n g).group

      many : nat_lt 0 (length h.members) ≡ true
      many = ap (λ (x : ℕ). nat_lt 0 x) (as_many now k q g n) ∙ peopled_at gs i g low at some

      by : (b : Bool) → group_bytes h + cond b (part_lengths g.members) 0 ≡ group_bytes g + cond b (sum_by length (parts_for q.parts g.members)) 0
          → sum_by group_bytes (put_back gs i h) + group_bytes g ≡ sum_by group_bytes gs + sum_by group_bytes (kept h) → sum_by group_bytes (kept h) ≡ group_bytes h + 0
          → sum_by group_bytes (put_back gs i h) ≡ cond b (bytes_of_parts bytes q.parts g) bytes
      by true grows back is = omega (arith, grows, back, is, counted.0, parts_counted gs i bytes g low at counted)
      by false grows back is = omega (arith, grows, back, is, counted.0)

abbrev with_parts : ℕ → List Part → Group → Planned
with_parts bytes ps g = record { bytes = bytes_of_parts bytes ps g; given = Some (parts_for ps g.members) }

abbrev without_parts : ℕ → Planned
without_parts bytes = record { bytes = bytes; given = None }

-- there is no room
plan_none : (bytes : ℕ) (id : List ℕ) (ps : List Part) (g : Group) → None ≡ plan_by bytes id ps g → nat_lt MOST_BYTES (behind_by bytes id ps g) ≡ true
plan_none bytes id ps g none = by (gives id g) (nat_lt MOST_BYTES (bytes_of_parts bytes ps g)) refl none where
  by : (b c : Bool) → nat_lt MOST_BYTES (bytes_of_parts bytes ps g) ≡ c
      → None ≡ cond b (cond c None (Some (with_parts bytes ps g))) (Some (without_parts bytes))
      → nat_lt MOST_BYTES (cond b (bytes_of_parts bytes ps g) bytes) ≡ true
  by true true e none = e
  by true false e none = absurd (none-some _ none)
  by false c e none = absurd (none-some _ none)

-- What is planned.
pub record IsPlan (bytes : ℕ) (id : List ℕ) (ps : List Part) (g : Group) (p : Planned) : Type 0 where
  pub bytes_are : p.bytes ≡ behind_by bytes id ps g
  pub given_are : p.given ≡ parts_by id ps g
  pub fits : nat_lt MOST_BYTES (behind_by bytes id ps g) ≡ false

pub plan_some : (bytes : ℕ) (id : List ℕ) (ps : List Part) (g : Group) (p : Planned) → bytes ≤ MOST_BYTES → Some p ≡ plan_by bytes id ps g → IsPlan bytes id ps g p
plan_some bytes id ps g p bounded some = by (gives id g) refl (nat_lt MOST_BYTES (bytes_of_parts bytes ps g)) refl some where
  from : (b : Bool) → gives id g ≡ b → p.bytes ≡ cond b (bytes_of_parts bytes ps g) bytes → p.given ≡ cond b (Some (parts_for ps g.members)) None
      → nat_lt MOST_BYTES (cond b (bytes_of_parts bytes ps g) bytes) ≡ false → IsPlan bytes id ps g p
  from b e size given fits = record {
    bytes_are = size ∙ (λ i. cond (sym e i) (bytes_of_parts bytes ps g) bytes);
    given_are = given ∙ (λ i. cond (sym e i) (Some (parts_for ps g.members)) None);
    fits = (λ i. nat_lt MOST_BYTES (cond (e i) (bytes_of_parts bytes ps g) bytes)) ∙ fits;
  }

  by : (b : Bool) → gives id g ≡ b → (c : Bool) → nat_lt MOST_BYTES (bytes_of_parts bytes ps g) ≡ c
      → Some p ≡ cond b (cond c None (Some (with_parts bytes ps g))) (Some (without_parts bytes)) → IsPlan bytes id ps g p
  by true e true f some = absurd (none-some p (sym some))
  by true e false f some =
      let is = same_Some p (with_parts bytes ps g) some in
      from true e (ap (λ (x : Planned). x.bytes) is) (ap (λ (x : Planned). x.given) is) f
  by false e c f some =
      let is = same_Some p (without_parts bytes) some in
      from false e (ap (λ (x : Planned). x.bytes) is) (ap (λ (x : Planned). x.given) is) (grind (arith, bounded))

-- ---- what is replied

pub refuse_full : (full : ℕ) (v w : Groups) (k : ℕ) → nat_lt MOST_BYTES full ≡ true → if_room full v w k ≡ at_once (Refused NotAvailable) v
refuse_full full v w k over = λ i. cond (over i || nat_lt MOST_IDS w.ids) (at_once (Refused NotAvailable) v) (release k w)

pub take_in : (full : ℕ) (v w : Groups) (k : ℕ) → nat_lt MOST_BYTES full ≡ false → w.ids ≤ MOST_IDS → if_room full v w k ≡ release k w
take_in full v w k fits ids = by (nat_lt MOST_IDS w.ids) (grind (arith, ids)) where
  by : (b : Bool) → b ≡ false → cond (nat_lt MOST_BYTES full || b) (at_once (Refused NotAvailable) v) (release k w) ≡ release k w
  by true e = absurd (true≢false e)
  by false e = λ i. cond (fits i || false) (at_once (Refused NotAvailable) v) (release k w)

module _ (now k : ℕ) (q : SyncRequest) (name : List ℕ) (v : Groups) (i bytes : ℕ) (g : Group) where
  abbrev asked : Groups
  asked = move_one name (sync now k q) v

  full_is : i < length v.groups → AreApart v.groups → ArePeopled v.groups → position (is_named name) v.groups ≡ Some i → g ≡ get_or v.groups i g → AreCounted bytes v.groups
      → all_bytes asked ≡ behind_by bytes q.member q.parts g
  full_is low apart some e at counted =
      let one = one_moved name (sync now k q) v i g apart some e at in
      ap (sum_by group_bytes) one.groups ∙ sum_back now k q v.generations v.groups i bytes g low at some counted

  -- there is no room for the parts
  pub sync_refused : i < length v.groups → AreApart v.groups → ArePeopled v.groups → position (is_named name) v.groups ≡ Some i → g ≡ get_or v.groups i g → AreCounted bytes v.groups
      → None ≡ plan_by bytes q.member q.parts g → if_room (all_bytes asked) v asked k ≡ at_once (Refused NotAvailable) v
  sync_refused low apart some e at counted none =
      refuse_full (all_bytes asked) v asked k (ap (λ (n : ℕ). nat_lt MOST_BYTES n) (full_is low apart some e at counted) ∙ plan_none bytes q.member q.parts g none)

  -- the group asked
  pub sync_taken : (l j : Noted) (hs : List Group) (p : Planned) → i < length v.groups → AreApart v.groups → ArePeopled v.groups → position (is_named name) v.groups ≡ Some i → g ≡ get_or v.groups i g
      → AreCounted bytes v.groups → Some p ≡ plan_by bytes q.member q.parts g → v.ids ≤ MOST_IDS → l.generations ≡ v.generations → l.refusals ≡ v.refused → DoesStayingAt (sync now k q) l j i v.groups hs
      → if_room (all_bytes asked) v asked k ≡ release k (record v { groups = hs; generations = j.generations; refused = j.refusals })
  sync_taken l j hs p low apart some e at counted plan ids numbers refused does =
      let is = plan_some bytes q.member q.parts g p counted.1 plan in
      take_in (all_bytes asked) v asked k (ap (λ (n : ℕ). nat_lt MOST_BYTES n) (full_is low apart some e at counted) ∙ is.fits) ids
      ∙ ap (release k) (sym (moved_staying name (sync now k q) v l j hs i low apart some e numbers refused does))

-- no group has this name
pub sync_nowhere : (now k : ℕ) (q : SyncRequest) (name : List ℕ) (v : Groups) (bytes : ℕ) → ArePeopled v.groups → position (is_named name) v.groups ≡ None → AreCounted bytes v.groups → v.ids ≤ MOST_IDS
    → if_room (all_bytes (move_one name (sync now k q) v)) v (move_one name (sync now k q) v) k ≡ release k v
sync_nowhere now k q name v bytes some e counted ids =
    let same : v ≡ move_one name (sync now k q) v = moved_none name (sync now k q) v some e in
    let fits : nat_lt MOST_BYTES (all_bytes v) ≡ false = grind (arith, counted.0, counted.1) in
    take_in (all_bytes (move_one name (sync now k q) v)) v (move_one name (sync now k q) v) k ((λ i. nat_lt MOST_BYTES (all_bytes (sym same i))) ∙ fits) ids ∙ ap (release k) (sym same)

-- ---- what stays so

-- the parts that are planned of the group at an index, whichever it is
pub planned_for : (gs : List Group) (i bytes : ℕ) (g : Group) (id : List ℕ) (ps : List Part) (p : Planned) (given : Option (List (List ℕ))) → i < length gs → g ≡ get_or gs i g → bytes ≤ MOST_BYTES
    → Some p ≡ plan_by bytes id ps g → given ≡ p.given → (x : Group) → x ≡ get_or gs i x → given ≡ parts_by id ps x
planned_for gs i bytes g id ps p given low at bounded plan is x there =
    is ∙ (plan_some bytes id ps g p bounded plan).given_are ∙ (λ j. parts_by id ps (same_at gs i g x low at there j))

pub more_room : (l k : Noted) (n : ℕ) → l.capacity ≤ k.capacity → k ≡ record l { capacity = k.capacity } → HasRoom l n → HasRoom k n
more_room l k n wide same room = omega (arith, wide, ap (λ (x : Noted). length x.refusals) same, room)

members_bytes : (ms : List Member) → length ms * 256 ≤ sum_by member_bytes ms
members_bytes [] = omega arith
members_bytes (m ∷ ms) = omega (arith, sum_by-cons member_bytes m ms, members_bytes ms)

pub waiting_bytes : (gs : List Group) → pending_in gs * 256 ≤ sum_by group_bytes gs
waiting_bytes [] = omega arith
waiting_bytes (g ∷ gs) = omega (arith, sum_by-cons group_bytes g gs, pending_most g.members, members_bytes g.members, waiting_bytes gs)

pending_set : (gs : List Group) (i : ℕ) (g h : Group) → i < length gs → g ≡ get_or gs i g → pending_in (slice_set gs i h) + pending_of g.members ≡ pending_in gs + pending_of h.members
pending_set [] i g h low at = absurd (omega (arith, low))
pending_set (y ∷ ys) zero g h low at = omega (arith, ap (λ (x : Group). pending_of x.members) at)
pending_set (y ∷ ys) (suc i) g h low at = omega (arith, pending_set ys i g h (omega (arith, low)) at)

-- there is room for whoever may wait
pub staying_room : (a : Move) (l j : Noted) (gs hs : List Group) (i bytes : ℕ) (g : Group) → i < length gs → g ≡ get_or gs i g → AreCounted bytes gs → HasRoom l (bytes / 256 + bytes / 256) → DoesStayingAt a l j i gs hs
    → HasRoom j (pending_in hs)
staying_room a l j gs hs i bytes g low at counted room does =
    let d = does g at in
    let all : pending_in gs ≤ bytes / 256 = le-div (pending_in gs) bytes 256 (omega arith) (omega (arith, counted.0, waiting_bytes gs)) in
    let own : length g.members ≤ bytes / 256 = le-div (length g.members) bytes 256 (omega arith) (omega (arith, counted.0, members_bytes g.members, bytes_at gs i g low at)) in
    let behind : pending_in hs ≡ pending_in (slice_set gs i d.0) = ap pending_in d.2 in
    subst (λ (n : Noted). HasRoom n (pending_in hs)) (sym d.1.noted)
    (omega (arith, length-append l.refusals (a l.generations g).refusals, room, d.1.room, all, own, behind, pending_set gs i g d.0 low at))

pub staying_both : (a : Move) (l j : Noted) (gs hs : List Group) (i : ℕ) (g : Group) → i < length gs → g ≡ get_or gs i g → AreApart gs × ArePeopled gs → DoesStayingAt a l j i gs hs → AreApart hs × ArePeopled hs
staying_both a l j gs hs i g low at both does =
    let d = does g at in
    (subst AreApart (sym d.2) (apart_set gs i g d.0 low at d.1.name both.0), subst ArePeopled (sym d.2) (peopled_set gs i g d.0 low at d.1.count both.1))

pub staying_numbered : (a : Move) (l j : Noted) (gs hs : List Group) (i last : ℕ) (g : Group) → i < length gs → g ≡ get_or gs i g → AreNumbered last gs → l.generations ≡ last → DoesStayingAt a l j i gs hs → AreNumbered j.generations hs
staying_numbered a l j gs hs i last g low at numbered same does =
    let d = does g at in (
      subst (λ (n : ℕ). n ≤ MOST_GENERATION) (sym (ap (λ (x : Noted). x.generations) d.1.noted ∙ same)) numbered.0,
      subst (AllByRecursion IsNumbered) (sym d.2)
          (set_numbered gs i d.0 (subst (λ (n : ℕ). n ≤ MOST_GENERATION) (sym d.1.generation) (numbered_at gs i g low at numbered.1)) numbered.1),
    )

pub staying_counted : (now k : ℕ) (q : SyncRequest) (l j : Noted) (gs hs : List Group) (i bytes : ℕ) (g : Group) (p : Planned) → i < length gs → g ≡ get_or gs i g → ArePeopled gs → AreCounted bytes gs
    → Some p ≡ plan_by bytes q.member q.parts g → DoesStayingAt (sync now k q) l j i gs hs → AreCounted p.bytes hs
staying_counted now k q l j gs hs i bytes g p low at some counted plan does =
    let d = does g at in
    let is = plan_some bytes q.member q.parts g p counted.1 plan in
    let many : nat_lt 0 (length d.0.members) ≡ true = ap (λ (n : ℕ). nat_lt 0 n) d.1.count ∙ peopled_at gs i g low at some in
    let total : p.bytes ≡ sum_by group_bytes hs =
    is.bytes_are ∙ sym (sum_back now k q l.generations gs i bytes g low at some counted) ∙ (λ x. sum_by group_bytes (put_back gs i (sym d.1.group x)))
    ∙ ap (sum_by group_bytes) (set_back gs i d.0 low many ∙ sym d.2) in
    (total, grind (arith, is.fits, is.bytes_are))
