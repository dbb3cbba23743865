use Rattle.snapshot_drafts.proofs.Opened.{images_more}
use Rattle.snapshot_drafts.proofs.beginning.slots_of_all.Goals as goal

pub loop-topic-preserved : goal.loop-topic-preserved
loop-topic-preserved g c =
    images_more c.args.start c.args.topics.now c.loop-topic.all.items c.push.new.self.items c.loop-topic.topic-index c.loop-topic.at c.in_ok-slots.end c.topic-item.result c.in_ok-slots.slots
    c.loop-topic-test.true c.topic-item.is c.in_ok-slots.ensures.slots c.in_ok-slots.ensures.end c.in_ok-push.ensures.items c.loop-topic.invariant
