use Rattle.std.proofs.Common.{◌≡◌, ◌++◌, None, length, rules}
use Rattle.responses.specs.Metadata.{metadata_head, metadata_leader_id}
use Rattle.log_requests.specs.Metadata.{metadata_leader}
use Rattle.answering.proofs.Begun.{on_ok}
use Rattle.log_requests.proofs.MetadataTopics.{body_written, topics_counted}
use Rattle.log_requests.proofs.metadata.put_all.Goals as goal

pub returns-clause-appends : goal.returns-clause-appends
returns-clause-appends g c =
    let s = c.args.state.now in
    let begun = c.args.out.now.items in
    let ts = c.topics.result.now in
    let heads : c.put_broker.new.out.items ≡ begun ++ metadata_head s.config.node_id s.config.host s.config.port (metadata_leader_id (metadata_leader s.config)) (length ts) = search rules in
    on_ok c.put_topics.result
    (λ e. body_written s None begun c.put_broker.new.out.items c.put_topics.new.out.items (length ts) (topics_counted s ts c.topics.ensures.topics) c.metadata_parts.ensures heads e)
    c.put_topics.ensures.appends
