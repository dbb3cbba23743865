use Rattle.responses.specs.Metadata.{metadata_topic_bytes}
use Rattle.log_requests.specs.Metadata.{metadata_of_topic}
use Rattle.broker_state.specs.Parts.{topic_contents}
use Rattle.log_requests.proofs.MetadataTopics.{all_seen}
use Rattle.answering.proofs.Begun.{begins_both, on_err_of}
use Rattle.log_requests.proofs.Written.{next_written}
use Rattle.log_requests.proofs.metadata.put_topics.Goals as goal

pub returns-in_err-put_topic-clause-begins : goal.returns-in_err-put_topic-clause-begins
returns-in_err-put_topic-clause-begins g c =
    on_err_of c.from_residual.result (begins_both c.args.out.now.items c.loop-topic.out.items c.put_topic.new.out.items c.loop-topic.invariant.1 c.in_err-put_topic.ensures.begins)

pub loop-topic-preserved : goal.loop-topic-preserved
loop-topic-preserved g c = (
  next_written metadata_topic_bytes (λ t. metadata_of_topic c.args.state.now.config (topic_contents t)) c.args.out.now.items c.loop-topic.out.items c.put_topic.new.out.items c.loop-topic.topic-index c.topics-topic-items.result.now c.topic-item.result
      c.loop-topic-test.true c.topic-item.is c.loop-topic.invariant.0 c.in_ok-put_topic.ensures.appends,
  begins_both c.args.out.now.items c.loop-topic.out.items c.put_topic.new.out.items c.loop-topic.invariant.1 (_, c.in_ok-put_topic.ensures.appends),
)

pub returns-clause-appends : goal.returns-clause-appends
returns-clause-appends g c =
    all_seen metadata_topic_bytes topic_contents (metadata_of_topic c.args.state.now.config) c.args.out.now.items c.loop-topic.out.items c.loop-topic.topic-index c.topics-topic-items.result.now c.args.state.now.topics c.loop-topic-test.false c.topics-topic-items.ensures.topics c.loop-topic.invariant.0
