use Rattle.std.proofs.lemmas.Bool.{MatchBool-at_true}
use Rattle.broker_core.proofs.ServedFrames.{next_fits}
use Rattle.broker_core.proofs.replying.answer_held.Goals as goal

pub overflow_add-index : goal.overflow_add-index
overflow_add-index g c =
    let one = MatchBool-at_true _ _ c.if-branch.true c.in_ok-answer_next.ensures.answers in
    next_fits c.args.node.now c.loop-index.node c.answer_next.new.node c.args.sink.now c.loop-index.sink c.answer_next.new.sink c.args.buffer.now.items c.loop-index.buffer.items c.answer_next.new.buffer.items c.args.first c.loop-index.index c.loop-index.invariant one c.requires.fits
