use Rattle.std.proofs.Common.{refl}
use Rattle.responses.specs.Metadata.{metadata_topic_bytes}
use Rattle.log_requests.specs.Metadata.{metadata_at}
use Rattle.log_requests.proofs.MetadataTopics.{all_seen}
use Rattle.answering.proofs.Begun.{begins_both, on_err_of}
use Rattle.log_requests.proofs.metadata.put_names.Goals as goal

pub returns-clause-appends : goal.returns-clause-appends
returns-clause-appends g c =
    all_seen metadata_topic_bytes (λ name. name.now) (metadata_at c.args.state.now) c.args.out.now.items c.loop-name.out.items c.loop-name.name-index c.args.names.now _ c.loop-name-test.false refl c.loop-name.invariant.0

pub returns-in_err-put_name-clause-begins : goal.returns-in_err-put_name-clause-begins
returns-in_err-put_name-clause-begins g c =
    on_err_of c.from_residual.result (begins_both c.args.out.now.items c.loop-name.out.items c.put_name.new.out.items c.loop-name.invariant.1 c.in_err-put_name.ensures.begins)
