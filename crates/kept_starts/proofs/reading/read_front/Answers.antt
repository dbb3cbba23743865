use Rattle.std.proofs.Common.{rules, ◌∙◌}
use Rattle.std.proofs.lemmas.List.{with_items_is}
use Rattle.kept_starts.proofs.Fronts.{front_more}
use Rattle.kept_starts.proofs.reading.read_front.Goals as goal

pub loop-preserved : goal.loop-preserved
loop-preserved g c =
    let read = c.in_ok-count.ensures in
    front_more (g.D.Disk.seen c.args.disk.now) c.loop.bytes.items c.deref_mut.result.now c.read_at.new.room c.deref.result.now c.extend_from_slice.new.self.items _ c.in_ok-count.count
    c.loop.invariant (search rules) read.bound read.len read.reads
    (c.deref.ensures.value ∙ with_items_is c.loop.piece c.read_at.new.room (search rules)) c.in_ok-extend_from_slice.ensures.items
