use Rattle.std.proofs.Common.{List, ◌++◌, ap, ◌∙◌}
use Rattle.std.specs.List.{flat_map}
use Rattle.batch_codec.specs.Values.{BatchValue}
use Rattle.copy_images.proofs.Written.{next_put, all_put}
use Rattle.copy_deltas.proofs.Entries.{said_bytes, said_all, placed_all, placed_next}
use Rattle.copy_deltas.proofs.write.put_each.Goals as goal

pub loop-batch-init : goal.loop-batch-init
loop-batch-init g c = (
  placed_all c.args.copy.now c.walk-walk.result c.walk-walk.ensures.is_content c.walk-walk.ensures.walks,
  ap (λ (bs : List BatchValue). c.args.out.now.items ++ flat_map (said_bytes c.args.asked.now.runs) bs) c.walk-walk.ensures.walks,
)

pub put_entry-requires-clause-in_range : goal.put_entry-requires-clause-in_range
put_entry-requires-clause-in_range g c = (placed_next c.loop-batch.walk c.next.new.self c.in-Some.batch c.in-Some.ensures.gives c.loop-batch.invariant.0).0.in_range

pub put_entry-requires-clause-some : goal.put_entry-requires-clause-some
put_entry-requires-clause-some g c = (placed_next c.loop-batch.walk c.next.new.self c.in-Some.batch c.in-Some.ensures.gives c.loop-batch.invariant.0).0.some

pub loop-batch-preserved : goal.loop-batch-preserved
loop-batch-preserved g c = (
  (placed_next c.loop-batch.walk c.next.new.self c.in-Some.batch c.in-Some.ensures.gives c.loop-batch.invariant.0).1,
  next_put (said_bytes c.args.asked.now.runs) c.loop-batch.out.items c.put_entry.new.out.items c.loop-batch.walk c.next.new.self c.in-Some.batch _ c.in-Some.ensures.gives c.in_ok-put_entry.ensures c.loop-batch.invariant.1,
)

pub returns : goal.returns
returns g c =
    all_put (said_bytes c.args.asked.now.runs) c.loop-batch.out.items c.loop-batch.walk _ c.in_default.ensures.gives.0 c.loop-batch.invariant.1
    ∙ ap (λ (bytes : _). c.args.out.now.items ++ bytes) (said_all c.args.asked.now.runs c.args.copy.now.kept)
