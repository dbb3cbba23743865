use Rattle.std.proofs.Common.{ℤ, drop, subst, to_z, of_z}
use Rattle.std.specs.Int.{w64}
use Rattle.std.specs.List.{filter, flat_map}
use Rattle.std.proofs.lemmas.Int.{to_z-of_z}
use Rattle.content.specs.Cleaning.{is_cleanable}
use Rattle.cleaner.specs.Later.{outdated_of}
use Rattle.cleaner.specs.Latest.{Means}
use Rattle.cleaner.specs.Older.{expiring_of}
use Rattle.cleaner.proofs.LatestOffsets.{means_nothing}
use Rattle.cleaner.proofs.InReach.{latest_none, latest_offsets, latest_more, latest_all}
use Rattle.cleaner.proofs.older.expiring_in.Goals as goal

pub loop-batch-init : goal.loop-batch-init
loop-batch-init g c =
    (c.cursor-cursor.ensures.stands, latest_none c.new-expiring.result (expiring_of (outdated_of c.args.later.now) (to_z w64 (of_z w64 c.args.bound))) (is_cleanable (to_z w64 (of_z w64 c.args.upto))) c.requires.order.0 (drop c.args.first (g.S.BatchStore.batches c.args.batches.now)) _ c.cursor-cursor.ensures.left (means_nothing c.new-expiring.result c.new-expiring.ensures.empty c.new-expiring.ensures.unique) c.requires.order.1)

pub next_in_reach-requires-clause-in_order : goal.next_in_reach-requires-clause-in_order
next_in_reach-requires-clause-in_order g c = (c.loop-batch.invariant.1.low, c.loop-batch.invariant.1.order)

pub put_expiring-requires : goal.put_expiring-requires
put_expiring-requires g c = latest_offsets c.loop-batch.expiring _ _ _ _ _ c.in-Some.batch c.in-Some.ensures.gives.0 c.loop-batch.invariant.1

pub loop-batch-preserved : goal.loop-batch-preserved
loop-batch-preserved g c =
    (c.in-Some.ensures.stands, latest_more c.loop-batch.expiring c.put_expiring.new.expiring (expiring_of (outdated_of c.args.later.now) (to_z w64 (of_z w64 c.args.bound))) (is_cleanable (to_z w64 (of_z w64 c.args.upto))) (drop c.args.first (g.S.BatchStore.batches c.args.batches.now)) _ _ c.in-Some.batch c.in-Some.ensures.gives.0 c.in-Some.ensures.gives.1 c.in_ok-put_expiring.ensures c.loop-batch.invariant.1)

pub returns : goal.returns
returns g c =
    subst (λ (y : ℤ). Means c.loop-batch.expiring (flat_map (expiring_of (outdated_of c.args.later.now) y) (filter (is_cleanable c.args.upto) (drop c.args.first (g.S.BatchStore.batches c.args.batches.now))))) (to_z-of_z w64 c.args.bound c.ranges.bound)
    (subst (λ (z : ℤ). Means c.loop-batch.expiring (flat_map (expiring_of (outdated_of c.args.later.now) (to_z w64 (of_z w64 c.args.bound))) (filter (is_cleanable z) (drop c.args.first (g.S.BatchStore.batches c.args.batches.now))))) (to_z-of_z w64 c.args.upto c.ranges.upto)
    (latest_all c.loop-batch.expiring (expiring_of (outdated_of c.args.later.now) (to_z w64 (of_z w64 c.args.bound))) (is_cleanable (to_z w64 (of_z w64 c.args.upto))) (drop c.args.first (g.S.BatchStore.batches c.args.batches.now)) _ c.in_default.ensures.gives c.loop-batch.invariant.1))
