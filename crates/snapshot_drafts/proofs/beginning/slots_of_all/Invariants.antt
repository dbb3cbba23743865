use Rattle.std.specs.Prelude.{map}
use Rattle.broker_state.specs.Parts.{topic_contents}
use Rattle.snapshot_drafts.specs.Drafts.{partition_images}
use Rattle.snapshot_drafts.proofs.Begun.{HasTopics}
use Rattle.snapshot_drafts.proofs.beginning.slots_of_all.Given as goal

abbrev pub invariant-loop-topic : goal.invariant-loop-topic
invariant-loop-topic g l = HasTopics l.start (map (λ t. partition_images (topic_contents t)) l.topics) l.all.items l.topic-index l.at
