use Rattle.std.proofs.Common.{◌≡◌, ◌++◌}
use Rattle.std.specs.Prelude.{map}
use Rattle.std.specs.List.{flat_map, range_with_len}
use Rattle.responses.specs.Metadata.{metadata_partition_bytes}
use Rattle.log_requests.specs.Metadata.{metadata_of_partition}
use Rattle.log_requests.proofs.metadata.topics.put_partitions.Given as goal

abbrev pub invariant-loop-index : goal.invariant-loop-index
invariant-loop-index g l =
    l.out.items ≡ l.fn.out.items ++ flat_map metadata_partition_bytes (map (metadata_of_partition l.state.config) (range_with_len 0 l.index))
