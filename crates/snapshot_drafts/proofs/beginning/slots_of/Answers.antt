use Rattle.broker_state.specs.Parts.{topic_contents}
use Rattle.snapshot_drafts.proofs.Opened.{image_more}
use Rattle.snapshot_drafts.proofs.beginning.slots_of.Goals as goal

pub loop-index-preserved : goal.loop-index-preserved
loop-index-preserved g c =
    image_more c.args.start (topic_contents c.args.topic.now) c.loop-index.slots.items c.push.new.self.items c.loop-index.index c.loop-index.at c.in_ok-size.size c.in_ok-at.at c.partition_copy.result.now
    c.partition_copy.ensures c.in_ok-size.ensures c.in_ok-at.ensures c.in_ok-push.ensures.items c.loop-index.invariant
