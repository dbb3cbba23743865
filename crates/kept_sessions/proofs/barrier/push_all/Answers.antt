use Rattle.std.proofs.Common.{rules}
use Rattle.kept_sessions.proofs.Barred.{next_topic}
use Rattle.kept_sessions.proofs.barrier.push_all.Goals as goal

pub loop-index-preserved : goal.loop-index-preserved
loop-index-preserved g c = next_topic c.topics-topics.result.now c.args.state.now c.topics-topics.ensures.topics c.loop-index.places.items c.push_places.new.places.items _ c.loop-index.index c.index-topics-index.result (search rules) (search rules) c.loop-index.invariant (search rules)
