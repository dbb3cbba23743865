use Rattle.std.proofs.Common.{ℤ, subst, to_z, of_z}
use Rattle.std.specs.Int.{w64}
use Rattle.std.specs.List.{filter, flat_map}
use Rattle.std.proofs.lemmas.Int.{to_z-of_z}
use Rattle.cleaner.specs.Latest.{Means}
use Rattle.cleaner.specs.Older.{known_of, begins_below}
use Rattle.cleaner.proofs.LatestOffsets.{means_nothing}
use Rattle.cleaner.proofs.InReach.{latest_none, latest_offsets, latest_more, latest_all}
use Rattle.cleaner.proofs.older.known_before.Goals as goal

pub loop-batch-init : goal.loop-batch-init
loop-batch-init g c =
    (c.cursor-cursor.ensures.stands, latest_none c.new-older.result (known_of c.args.keys.now) (begins_below (to_z w64 (of_z w64 c.args.from))) c.requires.order.0 (g.S.BatchStore.batches c.args.batches.now) _ c.cursor-cursor.ensures.left (means_nothing c.new-older.result c.new-older.ensures.empty c.new-older.ensures.unique) c.requires.order.1)

pub next_before-requires-clause-in_order : goal.next_before-requires-clause-in_order
next_before-requires-clause-in_order g c = (c.loop-batch.invariant.1.low, c.loop-batch.invariant.1.order)

pub put_known-requires : goal.put_known-requires
put_known-requires g c = latest_offsets c.loop-batch.older _ _ _ _ _ c.in-Some.batch c.in-Some.ensures.gives.0 c.loop-batch.invariant.1

pub loop-batch-preserved : goal.loop-batch-preserved
loop-batch-preserved g c =
    (c.in-Some.ensures.stands, latest_more c.loop-batch.older c.put_known.new.older (known_of c.args.keys.now) (begins_below (to_z w64 (of_z w64 c.args.from))) (g.S.BatchStore.batches c.args.batches.now) _ _ c.in-Some.batch c.in-Some.ensures.gives.0 c.in-Some.ensures.gives.1 c.in_ok-put_known.ensures c.loop-batch.invariant.1)

pub returns : goal.returns
returns g c =
    subst (λ (z : ℤ). Means c.loop-batch.older (flat_map (known_of c.args.keys.now) (filter (begins_below z) (g.S.BatchStore.batches c.args.batches.now)))) (to_z-of_z w64 c.args.from c.ranges.from)
    (latest_all c.loop-batch.older (known_of c.args.keys.now) (begins_below (to_z w64 (of_z w64 c.args.from))) (g.S.BatchStore.batches c.args.batches.now) _ c.in_default.ensures.gives c.loop-batch.invariant.1)
