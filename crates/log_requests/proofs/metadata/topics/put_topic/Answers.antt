use Rattle.std.proofs.Common.{◌≡◌, ◌++◌, rules}
use Rattle.responses.specs.Metadata.{metadata_topic_head}
use Rattle.answering.specs.Codes.{no_error}
use Rattle.broker_state.specs.State.{is_group_topic}
use Rattle.answering.proofs.Begun.{on_ok}
use Rattle.log_requests.proofs.MetadataTopics.{topic_written}
use Rattle.log_requests.proofs.metadata.topics.put_topic.Goals as goal

pub returns-clause-appends : goal.returns-clause-appends
returns-clause-appends g c =
    let topic = c.args.topic.now in
    let old = c.args.out.now.items in
    let begun = c.begin_metadata_topic.new.out.items in
    let count = c.partition_count-count.result in
    let begins : begun ≡ old ++ metadata_topic_head no_error topic.name (is_group_topic topic.name) count = search rules in
    on_ok c.put_partitions.result (λ e. topic_written c.args.state.now.config topic old begun c.put_partitions.new.out.items count c.partition_count-count.ensures begins e) c.put_partitions.ensures.appends
