use Rattle.std.proofs.Common.{◌≡◌, ◌++◌, take}
use Rattle.std.specs.Prelude.{map}
use Rattle.std.specs.List.{flat_map}
use Rattle.answering.specs.Writing.{Begins}
use Rattle.responses.specs.Metadata.{metadata_topic_bytes}
use Rattle.log_requests.specs.Metadata.{metadata_of_topic}
use Rattle.broker_state.specs.Parts.{topic_contents}
use Rattle.log_requests.proofs.metadata.put_topics.Given as goal

abbrev pub invariant-loop-topic : goal.invariant-loop-topic
invariant-loop-topic g l =
    (l.out.items ≡ l.fn.out.items ++ flat_map metadata_topic_bytes (map (λ t. metadata_of_topic l.state.config (topic_contents t)) (take l.topic-index l.topic-items)))
    × Begins l.fn.out.items l.out.items
