-- What a join comes to, where nothing refuses it.
use Rattle.std.proofs.Common.{◌≡◌, ℕ, ◌+◌, ◌<◌, ◌≤◌, ◌==◌, Bool, true, false, cond, nat_lt, List, length, get_or, refl, sym, ap, ◌∙◌, arith}
use Rattle.std.specs.Prelude.{None, ◌||◌}
use Rattle.std.proofs.lemmas.Int.{clamps}
use Rattle.group_coordinator.specs.declared.values.GroupError.TheVariants.{NotAvailable}
use Rattle.group_coordinator.specs.declared.values.Settings.{Settings}
use Rattle.group_coordinator.specs.declared.values.TheConstants.{MOST_BYTES, MOST_IDS}
use Rattle.group_coordinator.specs.Members.{Member}
use Rattle.group_coordinator.specs.Groups.{Group, Move, and_then, prepare, settle}
use Rattle.group_coordinator.specs.Requests.Reply.{Refused}
use Rattle.group_coordinator.specs.Joining.{join_new, new_member, plainly, rejoin, rejoined, with_last, with_member}
use Rattle.group_coordinator.specs.Requests.{JoinRequest}
use Rattle.group_coordinator.specs.Coordinators.{Answered, Groups, all_bytes, ask_join, at_once, if_room, is_named, move_one, release, with_group}
use Rattle.group_coordinator.specs.Keeping.{AreApart, ArePeopled}
use Rattle.group_coordinator.specs.Entering.{capped, opened}
use Rattle.group_coordinator.proofs.Adding.{many_last}
use Rattle.group_coordinator.proofs.Keeping.{at_index}
use Rattle.group_coordinator.proofs.Opening.{IsOpened, is_opened, moves_twice, with_group_is}
use Rattle.group_coordinator.proofs.Places.{within}

abbrev pub renewal : Settings → ℕ → Move
renewal o now = and_then (prepare o now) (settle now)

-- ---- room

over_same : (bytes full : ℕ) → bytes ≡ capped full → nat_lt MOST_BYTES bytes ≡ nat_lt MOST_BYTES full
over_same bytes full is = grind (arith, clamps, is)

pub full_refuses : (full bytes n : ℕ) (v w : Groups) (k : ℕ) (b : Bool) → bytes ≡ capped full → w.ids ≡ n → b ≡ (nat_lt MOST_BYTES bytes || nat_lt MOST_IDS n) → b ≡ true → if_room full v w k ≡ at_once (Refused NotAvailable) v
full_refuses full bytes n v w k b is ids test e =
    (λ i. cond (sym (over_same bytes full is) i || nat_lt MOST_IDS (ids i)) (at_once (Refused NotAvailable) v) (release k w)) ∙ (λ i. cond ((sym test ∙ e) i) (at_once (Refused NotAvailable) v) (release k w))

pub room_takes : (full bytes n : ℕ) (v w : Groups) (k : ℕ) (b : Bool) → bytes ≡ capped full → w.ids ≡ n → b ≡ (nat_lt MOST_BYTES bytes || nat_lt MOST_IDS n) → b ≡ false → if_room full v w k ≡ release k w
room_takes full bytes n v w k b is ids test e =
    (λ i. cond (sym (over_same bytes full is) i || nat_lt MOST_IDS (ids i)) (at_once (Refused NotAvailable) v) (release k w)) ∙ (λ i. cond ((sym test ∙ e) i) (at_once (Refused NotAvailable) v) (release k w))

-- there is room, and an id is left
pub left_for : (full bytes n : ℕ) (b : Bool) → bytes ≡ capped full → b ≡ (nat_lt MOST_BYTES bytes || nat_lt MOST_IDS (n + 1)) → b ≡ false → (bytes ≡ full) × ((bytes ≤ MOST_BYTES) × (n < MOST_IDS))
left_for full bytes n b is test e = by (nat_lt MOST_BYTES bytes) refl (nat_lt MOST_IDS (n + 1)) refl (sym test ∙ e) where
  by : (x : Bool) → nat_lt MOST_BYTES bytes ≡ x → (y : Bool) → nat_lt MOST_IDS (n + 1) ≡ y → (x || y) ≡ false → (bytes ≡ full) × ((bytes ≤ MOST_BYTES) × (n < MOST_IDS))
  by false f false h e =
      let low : bytes ≤ MOST_BYTES = grind (arith, f) in
      (same bytes full is low, (low, grind (arith, h))) where
        same : (bytes full : ℕ) → bytes ≡ capped full → bytes ≤ MOST_BYTES → bytes ≡ full
        same bytes full is low = omega (arith, clamps, is, low)
  by true f y h e = absurd (grind (arith, e))
  by false f true h e = absurd (grind (arith, e))

-- ---- a new member

pub entered_renewed : (name kind : List ℕ) (m : Member) (v mid last : Groups) (n : ℕ) → AreApart v.groups → ArePeopled v.groups → mid ≡ move_one name (plainly (with_last m)) (record (with_group name kind v) { ids = n })
    → last ≡ move_one name (renewal mid.settings mid.now) mid → last ≡ move_one name (and_then (plainly (with_last m)) (renewal v.settings v.now)) (record (with_group name kind v) { ids = n })
entered_renewed name kind m v mid last n apart some first second =
    second ∙ (λ j. move_one name (renewal (behind j).settings (behind j).now) (behind j))
    ∙ moves_twice name (plainly (with_last m)) (renewal v.settings v.now) u o.index at.0 o.apart o.some o.place at.1 refl (many_last m at.0.members)
    ∙ (λ j. move_one name (and_then (plainly (with_last m)) (renewal v.settings v.now)) (sym same j)) where
      o : IsOpened name kind v.groups
      o = is_opened name kind v.groups apart some

      u : Groups
      u = record v { groups = opened name kind v.groups; ids = n }

      same : (record (with_group name kind v) { ids = n }) ≡ u
      same = λ j. record (with_group_is name kind v j) { ids = n }

      at : (g : Group) × (g ≡ get_or (opened name kind v.groups) o.index g)
      at = at_index (opened name kind v.groups) o.index (within (is_named name) (opened name kind v.groups) o.index o.place)

      behind : mid ≡ move_one name (plainly (with_last m)) u
      behind = first ∙ ap (move_one name (plainly (with_last m))) same

pub new_replied : (k : ℕ) (client : List ℕ) (q : JoinRequest) (v : Groups) (r : Answered) (m : Member) (name kind : List ℕ) → name ≡ q.group → kind ≡ q.kind → m ≡ new_member v.settings v.now k v.ids client q
    → if_room (all_bytes (move_one name (plainly (with_last m)) (with_group name kind v))) v
    (move_one name (and_then (plainly (with_last m)) (renewal v.settings v.now)) (record (with_group name kind v) { ids = v.ids + 1 })) k ≡ r
    → (0 == length q.member) ≡ true → ask_join k client q v None ≡ r
new_replied k client q v r m name kind named kinds made replied none =
    (λ i. if_room
    (all_bytes (cond (none i) (move_one q.group (plainly (with_last (new_member v.settings v.now k v.ids client q))) (with_group q.group q.kind v)) (move_one q.group (plainly (with_member q.member (rejoined v.now k q))) v))) v
    (cond (none i) (move_one q.group (join_new v.settings v.now k v.ids client q) (record (with_group q.group q.kind v) { ids = v.ids + 1 })) (move_one q.group (rejoin v.settings v.now k q) v)) k)
    ∙ (λ i. if_room (all_bytes (move_one (sym named i) (plainly (with_last (sym made i))) (with_group (sym named i) (sym kinds i) v))) v
    (move_one (sym named i) (and_then (plainly (with_last (sym made i))) (renewal v.settings v.now)) (record (with_group (sym named i) (sym kinds i) v) { ids = v.ids + 1 })) k)
    ∙ replied

-- ---- a member that names its id

pub named_replied : (k : ℕ) (client : List ℕ) (q : JoinRequest) (v : Groups) (r : Answered) → (0 == length q.member) ≡ false
    → if_room (all_bytes (move_one q.group (plainly (with_member q.member (rejoined v.now k q))) v)) v (move_one q.group (rejoin v.settings v.now k q) v) k ≡ r → ask_join k client q v None ≡ r
named_replied k client q v r some replied =
    (λ i. if_room
    (all_bytes (cond (some i) (move_one q.group (plainly (with_last (new_member v.settings v.now k v.ids client q))) (with_group q.group q.kind v)) (move_one q.group (plainly (with_member q.member (rejoined v.now k q))) v))) v
    (cond (some i) (move_one q.group (join_new v.settings v.now k v.ids client q) (record (with_group q.group q.kind v) { ids = v.ids + 1 })) (move_one q.group (rejoin v.settings v.now k q) v)) k)
    ∙ replied
