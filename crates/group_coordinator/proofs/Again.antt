-- A member that joins anew, among all groups.
use Rattle.std.proofs.Common.{◌≡◌, ℕ, zero, suc, [], ◌∷◌, ◌+◌, ◌-◌, ◌<◌, ◌≤◌, Bool, true, false, cond, nat_lt, List, ◌++◌, map, min, length, get_or, set, slice_set, refl, sym, ap, subst, ◌∙◌, arith, append-nil}
use Rattle.std.specs.Prelude.{Some, None}
use Rattle.std.specs.List.{position, sum_by}
use Rattle.std.proofs.lemmas.Int.{clamps}
use Rattle.std.proofs.lemmas.List.{length-map}
use Rattle.std.proofs.lemmas.List.Sums.{get_or-le-sum_by, sum_by-set}
use Rattle.group_coordinator.specs.declared.values.GroupError.TheVariants.{NotAvailable}
use Rattle.group_coordinator.specs.declared.values.Settings.{Settings}
use Rattle.group_coordinator.specs.declared.values.TheConstants.{MOST_BYTES, MOST_IDS}
use Rattle.group_coordinator.specs.declared.values.Wait.TheVariants.{Told}
use Rattle.group_coordinator.specs.Members.{Member, Protocol, has_id, member_bytes, protocol_bytes}
use Rattle.group_coordinator.specs.Groups.{Group, Move, and_then, group_bytes}
use Rattle.group_coordinator.specs.Requests.{JoinRequest}
use Rattle.group_coordinator.specs.Requests.Reply.{Refused}
use Rattle.group_coordinator.specs.Joining.{call, called, is_repeat, join_anew, plainly, rejoin, rejoined, waits, with_member}
use Rattle.group_coordinator.specs.Coordinators.{Groups, all_bytes, at_once, if_room, is_named, move_one, release}
use Rattle.group_coordinator.specs.Keeping.{AreApart, AreCounted, ArePeopled}
use Rattle.group_coordinator.specs.Doing.{Noted}
use Rattle.group_coordinator.specs.Entering.{IsOnly, capped}
use Rattle.group_coordinator.specs.Giving.{DoesStayingAt}
use Rattle.group_coordinator.proofs.Bytes.{bytes_at, bytes_mapped}
use Rattle.group_coordinator.proofs.Joined.{renewal}
use Rattle.group_coordinator.proofs.Lifting.{moved_none}
use Rattle.group_coordinator.proofs.Opening.{changes_to, moves_twice, peopled_but, same_move}
use Rattle.group_coordinator.proofs.Places.{same_at, within}
use Rattle.group_coordinator.proofs.Rejoining.{twice_changed}
use Rattle.group_coordinator.proofs.Staying.{peopled_at, refuse_full, take_in}

abbrev pub tells : (now k : ℕ) → List ℕ → Move
tells now k id = and_then (call now id) (plainly (with_member id (waits (Told k))))

abbrev pub calls : (now k : ℕ) → JoinRequest → Move
calls now k q = and_then (call now q.member) (plainly (with_member q.member (rejoined now k q)))

-- ---- what is counted

changed_bytes : (b : Bool) (m x : Member) → member_bytes x ≡ member_bytes m → member_bytes (cond b x m) ≡ member_bytes m
changed_bytes true m x same = same
changed_bytes false m x same = refl

tells_bytes : (now k : ℕ) (id : List ℕ) (n : ℕ) (g : Group) → group_bytes (tells now k id n g).group ≡ group_bytes g
tells_bytes now k id n g =
    let first : sum_by member_bytes (map (λ x. cond (has_id id x) (called now x) x) g.members) ≡ sum_by member_bytes g.members =
    bytes_mapped (λ x. cond (has_id id x) (called now x) x) (λ m. changed_bytes (has_id id m) m (called now m) refl) g.members in
    let second : sum_by member_bytes (tells now k id n g).group.members ≡ sum_by member_bytes (map (λ x. cond (has_id id x) (called now x) x) g.members) =
    bytes_mapped (λ x. cond (has_id id x) (waits (Told k) x) x) (λ m. changed_bytes (has_id id m) m (waits (Told k) m) refl) (map (λ x. cond (has_id id x) (called now x) x) g.members) in
    omega (arith, first, second)

pub told_counted : (now k : ℕ) (id : List ℕ) (l j : Noted) (gs hs : List Group) (i bytes : ℕ) (g : Group) → i < length gs → g ≡ get_or gs i g → AreCounted bytes gs → DoesStayingAt (tells now k id) l j i gs hs → AreCounted bytes hs
told_counted now k id l j gs hs i bytes g low at counted does =
    let d = does g at in
    let same : group_bytes d.0 ≡ group_bytes g = ap group_bytes d.1.group ∙ tells_bytes now k id l.generations g in
    let here : group_bytes (get_or gs i g) ≡ group_bytes g = ap group_bytes (sym at) in
    let total : sum_by group_bytes hs ≡ sum_by group_bytes (set gs i d.0) = ap (sum_by group_bytes) d.2 in
    (omega (arith, counted.0, total, same, here, sum_by-set group_bytes gs i d.0 g low), counted.1)

calls_group : (now k : ℕ) (q : JoinRequest) (n : ℕ) (g : Group) → (calls now k q n g).group ≡ with_member q.member (rejoined now k q) g
calls_group now k q n g = λ i. record g { members = twice_changed q.member (rejoined now k q) (called now) (λ m. refl) (λ m. refl) g.members i }

pub called_counted : (now k : ℕ) (q : JoinRequest) (l j : Noted) (gs hs : List Group) (i bytes : ℕ) (g : Group) → g ≡ get_or gs i g → bytes ≡ sum_by group_bytes (slice_set gs i (with_member q.member (rejoined now k q) g)) → bytes ≤ MOST_BYTES
    → DoesStayingAt (calls now k q) l j i gs hs → AreCounted bytes hs
called_counted now k q l j gs hs i bytes g at is low does =
    let d = does g at in
    (is ∙ (λ p. sum_by group_bytes (slice_set gs i (sym (d.1.group ∙ calls_group now k q l.generations g) p))) ∙ ap (sum_by group_bytes) (sym d.2), low)

most_sum : (a b s t r x : ℕ) → s ≡ min a 18446744073709551615 → t ≡ min b 18446744073709551615 → a ≤ x → x ≤ MOST_BYTES → r ≡ min (x - s + t) 18446744073709551615 → r ≡ min (x - a + b) 18446744073709551615
most_sum a b s t r x = λ p q low high is. omega (arith, clamps, p, q, low, high, is)

-- the bytes once a member has what it asks for
pub rejoined_sum : (now k : ℕ) (q : JoinRequest) (gs : List Group) (i j : ℕ) (g : Group) (m : Member) (bytes p n s r : ℕ) → i < length gs → g ≡ get_or gs i g → (j < length g.members) × IsOnly q.member j g.members
    → m ≡ get_or g.members j m → AreCounted bytes gs → p ≡ capped (sum_by protocol_bytes m.protocols) → n ≡ capped (sum_by protocol_bytes q.protocols) → s ≡ bytes - p → r ≡ min (s + n) 18446744073709551615
    → r ≡ capped (sum_by group_bytes (slice_set gs i (with_member q.member (rejoined now k q) g)))
rejoined_sum now k q gs i j g m bytes p n s r low at only there counted had asks less is =
    let h : Group = with_member q.member (rejoined now k q) g in
    let x : Member = rejoined now k q m in
    let members : sum_by member_bytes h.members ≡ sum_by member_bytes (set g.members j x) = ap (sum_by member_bytes) (only.1 (rejoined now k q) m there) in
    let own : member_bytes (get_or g.members j m) ≡ member_bytes m = ap member_bytes (sym there) in
    let changed = sum_by-set member_bytes g.members j x m only.0 in
    let here : group_bytes (get_or gs i g) ≡ group_bytes g = ap group_bytes (sym at) in
    let all = sum_by-set group_bytes gs i h g low in
    let part = get_or-le-sum_by member_bytes g.members j m only.0 in
    let old : sum_by protocol_bytes m.protocols ≤ bytes = omega (arith, own, part, bytes_at gs i g low at, counted.0) in
    let total : sum_by group_bytes (slice_set gs i h) ≡ bytes - sum_by protocol_bytes m.protocols + sum_by protocol_bytes q.protocols =
    omega (arith, members, own, changed, here, all, old, counted.0) in
    most_sum (sum_by protocol_bytes m.protocols) (sum_by protocol_bytes q.protocols) p n r bytes had asks old counted.1 (is ∙ (λ y. min (less y + n) 18446744073709551615)) ∙ ap capped (sym total)

member_at : (ms : List Member) (j : ℕ) → j < length ms → (m : Member) × (m ≡ get_or ms j m)
member_at [] j low = absurd (omega (arith, low))
member_at (m ∷ ms) zero low = (m, refl)
member_at (m ∷ ms) (suc j) low = member_at ms j (omega (arith, low))

-- the same of what was read
pub rejoined_read : (now : ℕ) (q : JoinRequest) (us gs : List Group) (i j : ℕ) (y : Group) (ps : List Protocol) (bytes p n s r : ℕ) → us ≡ gs → i < length gs
    → ((g : Group) → g ≡ get_or gs i g → (j < length g.members) × IsOnly q.member j g.members) → y ≡ get_or us i y → AreCounted bytes us
    → ((m : Member) → m ≡ get_or y.members j m → p ≡ capped (sum_by protocol_bytes m.protocols)) → ps ≡ q.protocols → n ≡ capped (sum_by protocol_bytes ps) → s ≡ bytes - p → r ≡ min (s + n) 18446744073709551615
    → (k : ℕ) (g : Group) → g ≡ get_or gs i g → r ≡ capped (sum_by group_bytes (slice_set gs i (with_member q.member (rejoined now k q) g)))
rejoined_read now q us gs i j y ps bytes p n s r same low each there counted had asked asks less is k g at =
    let one : y ≡ g = same_at gs i y g low (there ∙ (λ x. get_or (same x) i y)) at in
    let only = each g at in
    let m = member_at g.members j only.0 in
    rejoined_sum now k q gs i j g m.0 bytes p n s r low at only m.1 (subst (AreCounted bytes) same counted) (had m.0 (m.1 ∙ (λ x. get_or (sym one x).members j m.0)))
    (asks ∙ (λ x. capped (sum_by protocol_bytes (asked x)))) less is

-- ---- what it comes to

-- how it is grouped makes no difference
and_then_plainly : (a r : Move) (f : Group → Group) (n : ℕ) (g : Group) → and_then (and_then a (plainly f)) r n g ≡ and_then a (and_then (plainly f) r) n g
and_then_plainly a r f n g = λ j. record (r (a n g).generations (f (a n g).group)) { refusals = append-nil (a n g).refusals j ++ (r (a n g).generations (f (a n g).group)).refusals }

abbrev rejoins : Settings → (now k : ℕ) → JoinRequest → Bool → Move
rejoins o now k q b n g = cond b (tells now k q.member n g) (and_then (call now q.member) (join_anew o now k q) n g)

module _ (k : ℕ) (q : JoinRequest) (v : Groups) (i : ℕ) (g : Group) (apart : AreApart v.groups) (some : ArePeopled v.groups) (e : position (is_named q.group) v.groups ≡ Some i) (at : g ≡ get_or v.groups i g) where
  -- it is told at once
  pub repeats_told : (w : Groups) → is_repeat q g ≡ true → w ≡ move_one q.group (tells v.now k q.member) v → w ≡ move_one q.group (rejoin v.settings v.now k q) v
  repeats_told w yes_so made =
      made ∙ sym (same_move q.group (rejoin v.settings v.now k q) (tells v.now k q.member) v i g apart (peopled_but q.group v.groups some) e at (λ j. rejoins v.settings v.now k q (yes_so j) v.generations g))

  many : nat_lt 0 (length (calls v.now k q v.generations g).group.members) ≡ true
  many = ap (λ (x : ℕ). nat_lt 0 x)
      (length-map (map (λ x. cond (has_id q.member x) (called v.now x) x) g.members) (λ x. cond (has_id q.member x) (rejoined v.now k q x) x) ∙ length-map g.members (λ x. cond (has_id q.member x) (called v.now x) x))
      ∙ peopled_at v.groups i g (within (is_named q.group) v.groups i e) at some

  -- all join anew
  pub rejoins_all : (mid w : Groups) → is_repeat q g ≡ false → mid ≡ move_one q.group (calls v.now k q) v → w ≡ move_one q.group (renewal mid.settings mid.now) mid → w ≡ move_one q.group (rejoin v.settings v.now k q) v
  rejoins_all mid w anew first second =
      second ∙ (λ j. move_one q.group (renewal (first j).settings (first j).now) (first j))
      ∙ moves_twice q.group (calls v.now k q) (renewal v.settings v.now) v i g apart (peopled_but q.group v.groups some) e at refl many
      ∙ sym (same_move q.group (rejoin v.settings v.now k q) (and_then (calls v.now k q) (renewal v.settings v.now)) v i g apart (peopled_but q.group v.groups some) e at
      ((λ j. rejoins v.settings v.now k q (anew j) v.generations g) ∙ sym (and_then_plainly (call v.now q.member) (renewal v.settings v.now) (with_member q.member (rejoined v.now k q)) v.generations g)))

  abbrev full : ℕ
  full = all_bytes (move_one q.group (plainly (with_member q.member (rejoined v.now k q))) v)

  full_is : full ≡ sum_by group_bytes (slice_set v.groups i (with_member q.member (rejoined v.now k q) g))
  full_is =
      let h : Group = with_member q.member (rejoined v.now k q) g in
      let many_here : nat_lt 0 (length h.members) ≡ true =
      ap (λ (x : ℕ). nat_lt 0 x) (length-map g.members (λ x. cond (has_id q.member x) (rejoined v.now k q x) x)) ∙ peopled_at v.groups i g (within (is_named q.group) v.groups i e) at some in
      ap all_bytes (sym (changes_to q.group (with_member q.member (rejoined v.now k q)) v (slice_set v.groups i h) i g apart (peopled_but q.group v.groups some) e at many_here refl))

  -- there is no room for what it asks for
  pub rejoin_refused : (bytes : ℕ) → bytes ≡ capped (sum_by group_bytes (slice_set v.groups i (with_member q.member (rejoined v.now k q) g))) → MOST_BYTES < bytes
      → if_room (all_bytes (move_one q.group (plainly (with_member q.member (rejoined v.now k q))) v)) v (move_one q.group (rejoin v.settings v.now k q) v) k ≡ at_once (Refused NotAvailable) v
  rejoin_refused bytes is over = refuse_full full v (move_one q.group (rejoin v.settings v.now k q) v) k (grind (arith, clamps, is, over, full_is))

  pub rejoin_taken : (bytes : ℕ) (w : Groups) → bytes ≡ capped (sum_by group_bytes (slice_set v.groups i (with_member q.member (rejoined v.now k q) g))) → bytes ≤ MOST_BYTES → v.ids ≤ MOST_IDS
      → w ≡ move_one q.group (rejoin v.settings v.now k q) v
      → if_room (all_bytes (move_one q.group (plainly (with_member q.member (rejoined v.now k q))) v)) v (move_one q.group (rejoin v.settings v.now k q) v) k ≡ release k w
  rejoin_taken bytes w is fits ids made = take_in full v (move_one q.group (rejoin v.settings v.now k q) v) k (grind (arith, clamps, is, fits, full_is)) ids ∙ ap (release k) (sym made)

-- no group has this name
pub rejoin_nowhere : (k : ℕ) (q : JoinRequest) (v : Groups) (bytes : ℕ) → ArePeopled v.groups → position (is_named q.group) v.groups ≡ None → AreCounted bytes v.groups → v.ids ≤ MOST_IDS
    → if_room (all_bytes (move_one q.group (plainly (with_member q.member (rejoined v.now k q))) v)) v (move_one q.group (rejoin v.settings v.now k q) v) k ≡ release k v
rejoin_nowhere k q v bytes some e counted ids =
    let same : v ≡ move_one q.group (rejoin v.settings v.now k q) v = moved_none q.group (rejoin v.settings v.now k q) v some e in
    let entered : v ≡ move_one q.group (plainly (with_member q.member (rejoined v.now k q))) v = moved_none q.group (plainly (with_member q.member (rejoined v.now k q))) v some e in
    let fits : nat_lt MOST_BYTES (all_bytes v) ≡ false = grind (arith, counted.0, counted.1) in
    take_in (all_bytes (move_one q.group (plainly (with_member q.member (rejoined v.now k q))) v)) v (move_one q.group (rejoin v.settings v.now k q) v) k
    ((λ i. nat_lt MOST_BYTES (all_bytes (sym entered i))) ∙ fits) ids
    ∙ ap (release k) (sym same)
