-- A new member of the group of a name, among all groups.
use Rattle.std.proofs.Common.{◌≡◌, ℕ, ◌+◌, ◌/◌, ◌<◌, ◌≤◌, true, nat_lt, List, [], ◌∷◌, ◌++◌, length, get_or, slice_set, min, sym, ap, subst, ◌∙◌, arith, refl}
use Rattle.std.specs.Prelude.{Option, Some, None}
use Rattle.std.specs.List.{AllByRecursion, position, sum_by}
use Rattle.std.proofs.lemmas.Nat.{le-div}
use Rattle.std.proofs.lemmas.Int.{clamps}
use Rattle.std.proofs.lemmas.List.Sums.{sum_by-append, sum_by-cons, sum_by-set}
use Rattle.group_coordinator.specs.declared.values.TheConstants.{MOST_BYTES}
use Rattle.group_coordinator.specs.Members.{Member, member_bytes}
use Rattle.group_coordinator.specs.Groups.{Group, group_bytes, new_group}
use Rattle.group_coordinator.specs.Joining.{plainly, with_last}
use Rattle.group_coordinator.specs.Coordinators.{Groups, all_bytes, is_named, move_one, only, with_group}
use Rattle.group_coordinator.specs.Keeping.{AreApart, AreCounted, AreNumbered, ArePeopled}
use Rattle.group_coordinator.specs.Doing.{HasRoom, Noted, pending_in}
use Rattle.group_coordinator.specs.Entering.{Enters, capped, opened}
use Rattle.group_coordinator.proofs.Bytes.{IsNumbered, numbered_at, set_numbered}
use Rattle.group_coordinator.proofs.Entering.{opened_found, opened_none}
use Rattle.group_coordinator.proofs.Keeping.{apart_set, at_index}
use Rattle.group_coordinator.proofs.Lifting.{all_more}
use Rattle.group_coordinator.proofs.Opening.{changes_to, is_opened, leaves_there, moved_peopled, with_group_is}
use Rattle.group_coordinator.proofs.Places.{within}
use Rattle.group_coordinator.proofs.Staying.{set_back, waiting_bytes}

pub many_last : (m : Member) (ms : List Member) → nat_lt 0 (length (ms ++ m ∷ [])) ≡ true
many_last m [] = refl
many_last m (x ∷ ms) = grind arith

module _ (name kind : List ℕ) (m : Member) (v : Groups) (hs : List Group) (apart : AreApart v.groups) (some : ArePeopled v.groups) (e : Enters name kind m v.groups hs) where
  abbrev all : List Group
  all = opened name kind v.groups

  low : e.0 < length all
  low = within (is_named name) all e.0 e.1

  there : (g : Group) × (g ≡ get_or all e.0 g)
  there = at_index all e.0 low

  made : hs ≡ slice_set all e.0 (with_last m there.0)
  made = e.2 there.0 there.1

  -- the groups behind it
  pub entered_is : (record v { groups = hs }) ≡ move_one name (plainly (with_last m)) (with_group name kind v)
  entered_is =
      let o = is_opened name kind v.groups apart some in
      changes_to name (with_last m) (record v { groups = all }) hs e.0 there.0 o.apart o.some e.1 there.1 (many_last m there.0.members) made
      ∙ (λ j. move_one name (plainly (with_last m)) (sym (with_group_is name kind v) j))

  -- the same, once its id was given
  pub entered_next : (n : ℕ) → (record v { groups = hs; ids = n }) ≡ move_one name (plainly (with_last m)) (record (with_group name kind v) { ids = n })
  entered_next n =
      let o = is_opened name kind v.groups apart some in
      changes_to name (with_last m) (record v { groups = all; ids = n }) hs e.0 there.0 o.apart o.some e.1 there.1 (many_last m there.0.members) made
      ∙ (λ j. move_one name (plainly (with_last m)) (record (sym (with_group_is name kind v) j) { ids = n }))

  pub entered_both : AreApart hs × ArePeopled hs
  entered_both =
      let o = is_opened name kind v.groups apart some in
      let one = leaves_there name (plainly (with_last m)) v.generations all e.0 there.0 o.apart o.some e.1 there.1 in (
        subst AreApart (sym made) (apart_set all e.0 there.0 (with_last m there.0) low there.1 refl o.apart),
        subst ArePeopled (one.groups ∙ set_back all e.0 (with_last m there.0) low (many_last m there.0.members) ∙ sym made)
            (moved_peopled (only name (plainly (with_last m))) v.generations all),
      )

  opened_numbered : AllByRecursion IsNumbered v.groups → AllByRecursion IsNumbered all
  opened_numbered numbered = by (position (is_named name) v.groups) refl where
    by : (r : Option ℕ) → position (is_named name) v.groups ≡ r → AllByRecursion IsNumbered all
    by (Some i) f = subst (AllByRecursion IsNumbered) (sym (opened_found name kind v.groups i f)) numbered
    by None f = subst (AllByRecursion IsNumbered) (sym (opened_none name kind v.groups f)) (all_more IsNumbered v.groups (new_group name kind ∷ []) numbered (omega arith, tt))

  pub entered_numbered : (last : ℕ) → AreNumbered last v.groups → AreNumbered last hs
  entered_numbered last numbered =
      let each = opened_numbered numbered.1 in (
        numbered.0,
        subst (AllByRecursion IsNumbered) (sym made) (set_numbered all e.0 (with_last m there.0) (numbered_at all e.0 there.0 low there.1 each) each),
      )

  pub entered_counted : (bytes : ℕ) → bytes ≡ all_bytes (move_one name (plainly (with_last m)) (with_group name kind v)) → bytes ≤ MOST_BYTES → AreCounted bytes hs
  entered_counted bytes is low = (is ∙ ap all_bytes (sym entered_is), low)

-- there is room for whoever waits
pub counted_room : (k : Noted) (hs : List Group) (bytes n : ℕ) → AreCounted bytes hs → n ≡ bytes / 256 + bytes / 256 → HasRoom k n → HasRoom k (pending_in hs)
counted_room k hs bytes n counted is room =
    let all : pending_in hs ≤ bytes / 256 = le-div (pending_in hs) bytes 256 (omega arith) (omega (arith, counted.0, waiting_bytes hs)) in
    omega (arith, room, is, all)

-- ---- the bytes that are counted then

last_bytes : (m : Member) (g : Group) → group_bytes (with_last m g) ≡ group_bytes g + member_bytes m
last_bytes m g = omega (arith, sum_by-append member_bytes g.members (m ∷ []), sum_by-cons member_bytes m [])

pub entered_sum : (name kind : List ℕ) (m : Member) (v : Groups) → AreApart v.groups → ArePeopled v.groups
    → all_bytes (move_one name (plainly (with_last m)) (with_group name kind v)) ≡ sum_by group_bytes (opened name kind v.groups) + member_bytes m
entered_sum name kind m v apart some =
    let o = is_opened name kind v.groups apart some in
    let all : List Group = opened name kind v.groups in
    let low = within (is_named name) all o.index o.place in
    let at = at_index all o.index low in
    let is : all_bytes (move_one name (plainly (with_last m)) (with_group name kind v)) ≡ sum_by group_bytes (slice_set all o.index (with_last m at.0)) =
    (λ j. all_bytes (move_one name (plainly (with_last m)) (with_group_is name kind v j)))
    ∙ ap all_bytes (sym (changes_to name (with_last m) (record v { groups = all }) (slice_set all o.index (with_last m at.0)) o.index at.0 o.apart o.some o.place at.1 (many_last m at.0.members) refl)) in
    let here : group_bytes (get_or all o.index at.0) ≡ group_bytes at.0 = ap group_bytes (sym at.1) in
    omega (arith, is, here, last_bytes m at.0, sum_by-set group_bytes all o.index (with_last m at.0) at.0 low)

abbrev most : ℕ
most = 18446744073709551615

-- of a group that is there
pub capped_found : (name kind : List ℕ) (m : Member) (v : Groups) (i bytes p r : ℕ) → AreApart v.groups → ArePeopled v.groups → position (is_named name) v.groups ≡ Some i → AreCounted bytes v.groups
    → p ≡ capped (member_bytes m) → r ≡ min (bytes + p) most → r ≡ capped (all_bytes (move_one name (plainly (with_last m)) (with_group name kind v)))
capped_found name kind m v i bytes p r apart some e counted part is =
    let same : sum_by group_bytes (opened name kind v.groups) ≡ sum_by group_bytes v.groups = ap (sum_by group_bytes) (opened_found name kind v.groups i e) in
    let all : all_bytes (move_one name (plainly (with_last m)) (with_group name kind v)) ≡ bytes + member_bytes m = omega (arith, entered_sum name kind m v apart some, same, counted.0) in
    capped_sum bytes (member_bytes m) p r part is ∙ ap capped (sym all) where
      capped_sum : (a b p r : ℕ) → p ≡ min b most → r ≡ min (a + p) most → r ≡ min (a + b) most
      capped_sum a b p r part is = omega (arith, clamps, part, is)

-- of a new one
pub capped_none : (name kind : List ℕ) (m : Member) (v : Groups) (bytes p r s t : ℕ) → AreApart v.groups → ArePeopled v.groups → position (is_named name) v.groups ≡ None → AreCounted bytes v.groups
    → p ≡ capped (member_bytes m) → r ≡ min (bytes + p) most → s ≡ min (r + length name) most → t ≡ min (s + length kind) most
    → t ≡ capped (all_bytes (move_one name (plainly (with_last m)) (with_group name kind v)))
capped_none name kind m v bytes p r s t apart some e counted part first second is =
    let same : sum_by group_bytes (opened name kind v.groups) ≡ sum_by group_bytes (v.groups ++ new_group name kind ∷ []) = ap (sum_by group_bytes) (opened_none name kind v.groups e) in
    let all : all_bytes (move_one name (plainly (with_last m)) (with_group name kind v)) ≡ bytes + member_bytes m + length name + length kind =
    omega (arith, entered_sum name kind m v apart some, same, counted.0, sum_by-append group_bytes v.groups (new_group name kind ∷ []), sum_by-cons group_bytes (new_group name kind) []) in
    capped_sum bytes (member_bytes m) (length name) (length kind) p r s t part first second is ∙ ap capped (sym all) where
      capped_sum : (a b x y p r s t : ℕ) → p ≡ min b most → r ≡ min (a + p) most → s ≡ min (r + x) most → t ≡ min (s + y) most → t ≡ min (a + b + x + y) most
      capped_sum a b x y p r s t part first second is = omega (arith, clamps, part, first, second, is)
