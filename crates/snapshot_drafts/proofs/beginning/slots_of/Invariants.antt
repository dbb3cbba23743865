use Rattle.broker_state.specs.Parts.{topic_contents}
use Rattle.snapshot_drafts.specs.Drafts.{partition_images}
use Rattle.snapshot_drafts.proofs.Begun.{HasSlots}
use Rattle.snapshot_drafts.proofs.beginning.slots_of.Given as goal

abbrev pub invariant-loop-index : goal.invariant-loop-index
invariant-loop-index g l = HasSlots l.start (partition_images (topic_contents l.topic)) l.slots.items l.index l.at
