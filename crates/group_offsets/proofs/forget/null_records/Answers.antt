use Rattle.std.proofs.Common.{◌≡◌, ◌<◌, ◌^◌, pos, List, [], ℕ, get_or, map, to_z, w32, arith}
use Rattle.std.proofs.lemmas.Int.{to_z_pos}
use Rattle.group_offsets.specs.Batches.{null_records}
use Rattle.group_offsets.specs.Walks.{Borrowed}
use Rattle.group_offsets.proofs.MappedElements.{mapped, in_map}
use Rattle.group_offsets.proofs.NullRecords.{null_more, null_record_is}
use Rattle.group_offsets.proofs.forget.null_records.Goals as goal

pub loop-i-init : goal.loop-i-init
unfolding null_records
loop-i-init g c = c.in_ok-recs.ensures.items

pub loop-i-preserved : goal.loop-i-preserved
loop-i-preserved g c =
    let f : Borrowed → List ℕ = λ key. key.now in
    let i = c.loop-i.i in
    let d : Borrowed = record { ref_ptr = (0, 0); now = [] } in
    let within = c.loop-i-test.true in
    let small : i < 2 ^ 31 = omega (arith, within, c.requires) in
    let delta : to_z w32 i ≡ pos i = to_z_pos w32 i small in
    let key = (get_or c.args.keys.now i d).now in
    let same = null_record_is c.offsets_record.result (to_z w32 i) i c.in_ok-key.key.items key c.offsets_record.ensures delta c.in_ok-key.ensures.items in
    null_more (map f c.args.keys.now) i c.loop-i.recs.items c.push.new.self.items c.offsets_record.result key (in_map f c.args.keys.now i within) (mapped f c.args.keys.now i d within) same c.in_ok-push.ensures.items c.loop-i.invariant
