use Rattle.sessions.proofs.Sharing.{one_grown}
use Rattle.sessions.proofs.waiting.grow_all.Goals as goal

pub loop-number-preserved : goal.loop-number-preserved
loop-number-preserved g c =
    one_grown c.args.stand.now c.args.growth c.args.waits.now c.loop-number.waits c.grow.new.self c.in-Some.number.now c.in-Some.share.now _ _ c.in-Some.ensures.steps
    c.grow.ensures.sleeps_on c.grow.ensures.keeps c.grow.ensures.waits c.grow.ensures.asleep c.loop-number.invariant
