use Rattle.std.proofs.Common.{sym, subst, ◌<◌}
use Rattle.broker_state.specs.Parts.{topic_contents}
use Rattle.snapshots.specs.Writing.{topic_value}
use Rattle.state_snapshots.specs.Snapshots.{image_sizes, topic_said}
use Rattle.state_snapshots.proofs.Written.{one_more, said_here, same_at, same_length}
use Rattle.state_snapshots.proofs.head.rows_of.Goals as goal

pub loop-index-preserved : goal.loop-index-preserved
loop-index-preserved g c =
    let i = c.loop-index.index in
    let t = c.index-topics-index.result in
    let low = subst (λ n. i < n) (sym (same_length (λ z. z.items) (λ t. image_sizes (topic_contents t)) c.args.sizes.now c.args.topics.now c.requires)) c.loop-index-test.true in
    let are = same_at (λ z. z.items) (λ t. image_sizes (topic_contents t)) c.args.sizes.now c.args.topics.now i c.index-sizes-index.result t c.requires low c.index-sizes-index.is c.index-topics-index.is in
    one_more (λ t. topic_said (topic_contents t)) topic_value c.args.topics.now i t (record { name = c.name.result; sizes = c.deref.result }) c.loop-index.rows.items c.push.new.self.items c.loop-index-test.true c.index-topics-index.is
    (said_here c.name.result.now c.deref.result.now c.index-sizes-index.result.items (topic_contents t) c.name.ensures c.deref.ensures.value are) c.in_ok-push.ensures.items c.loop-index.invariant
