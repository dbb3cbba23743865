use Rattle.std.proofs.Common.{rules, arith}
use Rattle.std.proofs.lemmas.Bool.{MatchBool-at_true, MatchBool-at_false}
use Rattle.broker_core.proofs.ServedSessions.{read_served, session_ends, reading_stops, answering_stops, frames_out, read_out, if_err}
use Rattle.broker_core.proofs.session.serve.Goals as goal

pub returns-in_err-read_more-clause-stops : goal.returns-in_err-read_more-clause-stops
returns-in_err-read_more-clause-stops g c =
    let stopped = if_err _ _ c.read_more.result (λ e. reading_stops c.args.node.now c.loop.node c.args.source.now c.loop.source c.read_more.new.source c.args.sink.now c.loop.sink c.loop.buffer.items c.loop.frames c.loop.counter e c.loop.invariant) c.read_more.ensures.stops in
    search (rules, stopped)

pub returns-then-not-branch-clause-ends : goal.returns-then-not-branch-clause-ends
returns-then-not-branch-clause-ends g c =
    let end = MatchBool-at_false _ _ c.if-not-branch.true c.in_ok-read_more.ensures.reads in
    session_ends c.args.node.now c.loop.node c.args.source.now c.loop.source c.read_more.new.source c.args.sink.now c.loop.sink c.loop.buffer.items c.read_more.new.buffer.items c.loop.frames c.loop.counter c.len-rest.result c.loop.invariant end c.in_ok-read_more.ensures.reads_once.1 c.len-rest.ensures.value

pub returns-in_err-frames-clause-stops : goal.returns-in_err-frames-clause-stops
returns-in_err-frames-clause-stops g c =
    let more = MatchBool-at_true _ _ c.if-not-branch.false c.in_ok-read_more.ensures.reads in
    let stopped = if_err _ _ c.answer_held.result (λ e. answering_stops c.args.node.now c.loop.node c.answer_held.new.node c.args.source.now c.loop.source c.read_more.new.source c.args.sink.now c.loop.sink c.answer_held.new.sink c.loop.buffer.items c.read_more.new.buffer.items c.loop.frames c.loop.counter e c.loop.invariant more c.in_ok-read_more.ensures.reads_once) c.answer_held.ensures.stops in
    search (rules, stopped)

pub returns-then-frames-ge-MOST_FRAMES-clause-stops : goal.returns-then-frames-ge-MOST_FRAMES-clause-stops
returns-then-frames-ge-MOST_FRAMES-clause-stops g c =
    let more = MatchBool-at_true _ _ c.if-not-branch.false c.in_ok-read_more.ensures.reads in
    frames_out c.args.node.now c.loop.node c.answer_held.new.node c.args.source.now c.loop.source c.read_more.new.source c.args.sink.now c.loop.sink c.answer_held.new.sink c.loop.buffer.items c.read_more.new.buffer.items c.answer_held.new.buffer.items c.loop.frames c.in_ok-frames.frames c.loop.counter c.loop.invariant more c.in_ok-read_more.ensures.reads_once c.in_ok-frames.ensures.answers c.in_ok-frames.ensures.incomplete

pub loop-preserved : goal.loop-preserved
loop-preserved g c =
    let more = MatchBool-at_true _ _ c.if-not-branch.false c.in_ok-read_more.ensures.reads in
    read_served c.args.node.now c.loop.node c.answer_held.new.node c.args.source.now c.loop.source c.read_more.new.source c.args.sink.now c.loop.sink c.answer_held.new.sink c.loop.buffer.items c.read_more.new.buffer.items c.answer_held.new.buffer.items c.loop.frames c.in_ok-frames.frames c.loop.counter c.loop.invariant more c.in_ok-read_more.ensures.reads_once c.in_ok-frames.ensures.answers c.in_ok-frames.ensures.incomplete (omega (arith, c.if-frames-ge-MOST_FRAMES.false))

pub returns-clause-stops : goal.returns-clause-stops
returns-clause-stops g c =
    read_out c.args.node.now c.loop.node c.args.source.now c.loop.source c.args.sink.now c.loop.sink c.loop.buffer.items c.loop.frames c.loop.counter c.loop.invariant (omega (arith, c.loop-test.false, c.loop.auto.counter-end))
