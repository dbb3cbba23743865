use Rattle.std.proofs.Common.{rules, arith, ◌-◌, length, get_or}
use Rattle.std.specs.Prelude.{int_lt, pos}
use Rattle.std.proofs.lemmas.Int.{ints}
use Rattle.std.proofs.lemmas.List.Sorted.{IsPartitionPoint-from_clause}
use Rattle.cover_ranges.specs.Runs.{IsRun}
use Rattle.cover_ranges.proofs.Runs.{index_found, index_at_end, index_at_last, is_partitioned}
use Rattle.cover_ranges.proofs.search.index_of.Goals as goal

pub returns : goal.returns
returns c =
    index_found _ _ _ c.partition_point.ensures.bound
    (IsPartitionPoint-from_clause (λ run. int_lt run.1 c.args.offset) _ _ c.partition_point.ensures.partitioned (is_partitioned _ _ c.requires) (λ a r q k. search rules))

pub returns-then-last-offset : goal.returns-then-last-offset
returns-then-last-offset c = index_at_end c.args.ranges.now c.args.offset (pos 0, pos 0) c.requires (omega arith) (omega (arith, ints))

pub returns-then-first-offset : goal.returns-then-first-offset
returns-then-first-offset c =
    let run : IsRun (get_or c.args.ranges.now (length c.args.ranges.now - 1) (pos 0, pos 0)) = c.requires.are_runs (length c.args.ranges.now - 1) (pos 0, pos 0) (omega arith) in
    index_at_last c.args.ranges.now c.args.offset (pos 0, pos 0) c.requires (omega arith) (omega (arith, ints)) (omega (arith, ints))
