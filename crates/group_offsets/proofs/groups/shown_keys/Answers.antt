use Rattle.std.proofs.Common.{◌≡◌, ◌<◌, ◌≤◌, ◌-◌, ℕ, suc, [], false, map, length, get_or, arith}
use Rattle.group_offsets.specs.declared.entries.Entry.{Entry}
use Rattle.group_offsets.specs.Walks.{entry_value}
use Rattle.group_offsets.proofs.MappedElements.{mapped, in_map}
use Rattle.group_offsets.proofs.ShownKeys.{shown_next, shown_all}
use Rattle.group_offsets.proofs.groups.shown_keys.Goals as goal

below : (i n : ℕ) → 0 < i → i ≤ n → (i ≡ suc (i - 1)) × (i - 1 < n)
below i n some le = (omega arith, omega arith)

pub loop-i-preserved : goal.loop-i-preserved
loop-i-preserved g c =
    let es = c.args.entries.now in
    let j = c.loop-i.i - 1 in
    let d : Entry = record { key = record { ref_ptr = (0, 0); now = [] }; has_value = false } in
    let at = below c.loop-i.i (length es) c.loop-i-test.true c.loop-i.auto.i in
    shown_next c.loop-i.seen c.show.new.seen c.loop-i.keys.items c.show.new.keys.items (map entry_value es) c.loop-i.i j (entry_value (get_or es j d)) at.0 (in_map entry_value es j at.1) (mapped entry_value es j d at.1) c.in_ok-show.ensures c.loop-i.invariant

pub returns : goal.returns
returns g c = shown_all c.loop-i.seen c.loop-i.keys.items c.reverse.new.self.items (map entry_value c.args.entries.now) c.loop-i.i (omega (arith, c.loop-i-test.false)) c.reverse.ensures.items c.loop-i.invariant
