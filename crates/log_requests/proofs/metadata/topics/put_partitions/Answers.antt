use Rattle.std.proofs.Common.{◌≡◌, ◌++◌, ◌∙◌, ap, sym, append-nil, arith}
use Rattle.std.specs.Prelude.{map}
use Rattle.std.specs.List.{flat_map, range_with_len}
use Rattle.responses.specs.Metadata.{metadata_partition_bytes}
use Rattle.log_requests.specs.Metadata.{metadata_of_partition}
use Rattle.log_requests.proofs.MetadataTopics.{one_more}
use Rattle.answering.proofs.Begun.{begins_kept, on_err_of}
use Rattle.log_requests.proofs.metadata.topics.put_partitions.Goals as goal

pub loop-index-init : goal.loop-index-init
loop-index-init g c = sym (append-nil c.args.out.now.items)

pub returns-in_err-put_metadata_partition-clause-begins : goal.returns-in_err-put_metadata_partition-clause-begins
returns-in_err-put_metadata_partition-clause-begins g c =
    on_err_of c.from_residual.result (begins_kept c.args.out.now.items c.loop-index.out.items c.put_metadata_partition.new.out.items (_, c.loop-index.invariant) c.in_err-put_metadata_partition.ensures.unchanged_on_error)

pub loop-index-preserved : goal.loop-index-preserved
loop-index-preserved g c =
    one_more metadata_partition_bytes (metadata_of_partition c.args.state.now.config) c.args.out.now.items c.loop-index.out.items c.put_metadata_partition.new.out.items c.loop-index.index c.metadata_of_partition.result
    c.loop-index.invariant c.metadata_of_partition.ensures c.in_ok-put_metadata_partition.ensures.appends

pub returns-clause-appends : goal.returns-clause-appends
returns-clause-appends g c =
    let all : c.loop-index.index ≡ c.args.count = omega (arith, c.loop-index.auto.index-end, c.loop-index-test.false) in
    c.loop-index.invariant ∙ ap (λ n. c.args.out.now.items ++ flat_map metadata_partition_bytes (map (metadata_of_partition c.args.state.now.config) (range_with_len 0 n))) all
