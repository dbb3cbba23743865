use Rattle.std.proofs.Common.{leb, rules}
use Rattle.std.proofs.lemmas.List.Sorted.{IsPartitionPoint-from_clause}
use Rattle.count_list.proofs.Running.{is_partitioned, block_found, IsFound}
use Rattle.count_list.proofs.starts.block_at.Goals as goal

found : (c : goal.After-partition_point) → IsFound c.args.starts.now c.partition_point.result c.args.i
found c =
    block_found c.args.starts.now c.args.i c.partition_point.result c.requires.not_empty c.requires.from_0 c.partition_point.ensures.bound
    (IsPartitionPoint-from_clause (λ s. leb s c.args.i) _ _ c.partition_point.ensures.partitioned (is_partitioned c.args.starts.now c.args.i c.requires.rising) (λ a r q k. search rules))

pub overflow_sub-result : goal.overflow_sub-result
overflow_sub-result c = (found c).some

pub returns-clause-starts_before : goal.returns-clause-starts_before
returns-clause-starts_before c = (found c).before

pub returns-clause-ends_after : goal.returns-clause-ends_after
returns-clause-ends_after c = (found c).after
