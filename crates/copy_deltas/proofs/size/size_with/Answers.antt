use Rattle.copy_deltas.proofs.Entries.{placed_all, placed_next}
use Rattle.copy_deltas.proofs.Sizes.{size_begins, size_more, size_whole}
use Rattle.copy_deltas.proofs.size.size_with.Goals as goal

pub loop-batch-init : goal.loop-batch-init
loop-batch-init g c = (
  placed_all c.args.copy.now c.walk-walk.result c.walk-walk.ensures.is_content c.walk-walk.ensures.walks,
  size_begins c.args.copy.now c.args.asked.now.runs c.args.fixed c.walk-walk.result c.requires.fixed c.walk-walk.ensures.walks,
)

pub entry_size-requires-clause-in_range : goal.entry_size-requires-clause-in_range
entry_size-requires-clause-in_range g c = (placed_next c.loop-batch.walk c.next.new.self c.in-Some.batch c.in-Some.ensures.gives c.loop-batch.invariant.0).0.in_range

pub entry_size-requires-clause-some : goal.entry_size-requires-clause-some
entry_size-requires-clause-some g c = (placed_next c.loop-batch.walk c.next.new.self c.in-Some.batch c.in-Some.ensures.gives c.loop-batch.invariant.0).0.some

pub loop-batch-preserved : goal.loop-batch-preserved
loop-batch-preserved g c = (
  (placed_next c.loop-batch.walk c.next.new.self c.in-Some.batch c.in-Some.ensures.gives c.loop-batch.invariant.0).1,
  size_more c.args.copy.now c.args.asked.now.runs c.loop-batch.size c.saturating_add-size.result c.entry_size.result c.loop-batch.walk c.next.new.self c.in-Some.batch
      c.in-Some.ensures.gives c.entry_size.ensures c.saturating_add-size.ensures c.loop-batch.invariant.1,
)

pub returns : goal.returns
returns g c = size_whole c.args.copy.now c.args.asked.now.runs c.loop-batch.size c.loop-batch.walk c.in_default.ensures.gives.0 c.loop-batch.invariant.1
