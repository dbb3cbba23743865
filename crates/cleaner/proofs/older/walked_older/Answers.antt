use Rattle.std.proofs.Common.{◌≡◌, ℕ, ℤ, drop, subst, to_z, of_z}
use Rattle.std.specs.Prelude.{IfOk}
use Rattle.std.specs.Int.{w64}
use Rattle.std.specs.List.{filter, flat_map}
use Rattle.std.proofs.lemmas.Int.{to_z-of_z}
use Rattle.std.proofs.lemmas.Result.{IfOk-weaker}
use Rattle.indexmap.specs.IndexMap as index
use Rattle.content.specs.Cleaning.{is_cleanable}
use Rattle.content.specs.Records.{log_records}
use Rattle.cleaner.specs.Later.{outdated_of}
use Rattle.cleaner.specs.Latest.{Means}
use Rattle.cleaner.specs.Older.{begins_below, expiring_of, known_of, KnowsOlder}
use Rattle.cleaner.proofs.InReach.{order_from}
use Rattle.cleaner.proofs.OlderKeys.{AllBehind, none_before, none_expire, knows_older}
use Rattle.cleaner.proofs.older.walked_older.Goals as goal

pub returns-then-first-eq0 : goal.returns-then-first-eq0
returns-then-first-eq0 g c =
    none_before (outdated_of c.args.later.now) c.new.result c.args.bound c.args.from (log_records (filter (is_cleanable c.args.upto) (drop c.args.first (g.S.BatchStore.batches c.args.batches.now)))) (g.S.BatchStore.batches c.args.batches.now) c.new.ensures.empty
    (subst (λ (n : ℕ). AllBehind c.args.from (drop n (g.S.BatchStore.batches c.args.batches.now))) c.if-first-eq0.true c.requires.behind)

pub expiring_in-requires-clause-order : goal.expiring_in-requires-clause-order
expiring_in-requires-clause-order g c = order_from c.requires.order.0 c.args.first (g.S.BatchStore.batches c.args.batches.now) c.requires.order.1

pub returns-then-is_empty : goal.returns-then-is_empty
returns-then-is_empty g c =
    let none : index.index_map_len c.in_ok-expiring.expiring ≡ 0 = c.is_empty.ensures.0 c.if-is_empty.true in
    none_expire (outdated_of c.args.later.now) c.in_ok-expiring.expiring c.in_ok-expiring.expiring c.args.bound (filter (is_cleanable c.args.upto) (drop c.args.first (g.S.BatchStore.batches c.args.batches.now))) (log_records (filter (begins_below c.args.from) (g.S.BatchStore.batches c.args.batches.now)))
    (subst (λ (y : ℤ). Means c.in_ok-expiring.expiring (flat_map (expiring_of (outdated_of c.args.later.now) y) (filter (is_cleanable c.args.upto) (drop c.args.first (g.S.BatchStore.batches c.args.batches.now))))) (to_z-of_z w64 c.args.bound c.ranges.bound)
    (subst (λ (z : ℤ). Means c.in_ok-expiring.expiring (flat_map (expiring_of (outdated_of c.args.later.now) (to_z w64 (of_z w64 c.args.bound))) (filter (is_cleanable z) (drop c.args.first (g.S.BatchStore.batches c.args.batches.now))))) (to_z-of_z w64 c.args.upto c.ranges.upto) c.in_ok-expiring.ensures))
    none

pub returns : goal.returns
returns g c =
    let part = filter (is_cleanable c.args.upto) (drop c.args.first (g.S.BatchStore.batches c.args.batches.now)) in
    let expiring = subst (λ (y : ℤ). Means c.in_ok-expiring.expiring (flat_map (expiring_of (outdated_of c.args.later.now) y) part)) (to_z-of_z w64 c.args.bound c.ranges.bound)
    (subst (λ (z : ℤ). Means c.in_ok-expiring.expiring (flat_map (expiring_of (outdated_of c.args.later.now) (to_z w64 (of_z w64 c.args.bound))) (filter (is_cleanable z) (drop c.args.first (g.S.BatchStore.batches c.args.batches.now))))) (to_z-of_z w64 c.args.upto c.ranges.upto) c.in_ok-expiring.ensures) in
    let known = subst (λ (z : ℤ). IfOk c.known_before.result (λ older. Means older (flat_map (known_of c.in_ok-expiring.expiring) (filter (begins_below z) (g.S.BatchStore.batches c.args.batches.now))))) (to_z-of_z w64 c.args.from c.ranges.from) c.known_before.ensures in
    IfOk-weaker c.known_before.result (λ older. Means older (flat_map (known_of c.in_ok-expiring.expiring) (filter (begins_below c.args.from) (g.S.BatchStore.batches c.args.batches.now)))) (λ older. KnowsOlder (outdated_of c.args.later.now) older c.args.bound (log_records part) (log_records (filter (begins_below c.args.from) (g.S.BatchStore.batches c.args.batches.now)))) (λ older means. knows_older (outdated_of c.args.later.now) c.in_ok-expiring.expiring older c.args.bound part (filter (begins_below c.args.from) (g.S.BatchStore.batches c.args.batches.now)) expiring means) known
