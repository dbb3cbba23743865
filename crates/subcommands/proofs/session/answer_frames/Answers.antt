use Rattle.std.proofs.Common.{inl, inr, refl, sym, ap, arith, ◌∙◌}
use Rattle.streams.specs.State.{SinkState}
use Rattle.subcommands.proofs.Stopping.{stopped, kept_stop, kept_end, answers_all, refuses_inside}
use Rattle.subcommands.proofs.session.answer_frames.Goals as goal

pub returns-in-Err-clause-refuses : goal.returns-in-Err-clause-refuses
returns-in-Err-clause-refuses g c =
    stopped c.args.node.now c.serve-answered.new.node c.args.source.now c.serve-answered.new.source c.args.sink.now c.serve-answered.new.sink
    c.finish-flushed.new.self.taken c.in-Err.why c.in-Err.ensures.stops c.finish-flushed.ensures.keeps

pub returns-in-Err-clause-fails : goal.returns-in-Err-clause-fails
returns-in-Err-clause-fails g c =
    inl (kept_stop c.args.node.now c.serve-answered.new.node c.args.source.now c.serve-answered.new.source c.args.sink.now c.serve-answered.new.sink
    c.finish-flushed.new.self c.in-Err.why c.in-Err.ensures.stops c.finish-flushed.ensures.keeps (λ failed. ap (λ (s : SinkState). s.failed) (c.finish-flushed.ensures.unused_once_failed failed) ∙ failed))

pub returns-then-is_err-clause-fails : goal.returns-then-is_err-clause-fails
returns-then-is_err-clause-fails g c =
    inr (
      refl,
      c.finish-flushed.ensures.tells_failure ∙ sym c.if-is_err.ensures.value,
      c.in-Ok.ended,
      kept_end c.args.node.now c.serve-answered.new.node c.args.source.now c.serve-answered.new.source c.args.sink.now c.serve-answered.new.sink
          c.finish-flushed.new.self c.in-Ok.ended c.in-Ok.ensures.ends c.finish-flushed.ensures.keeps,
    )

pub returns-then-ended-ne0-clause-fails : goal.returns-then-ended-ne0-clause-fails
returns-then-ended-ne0-clause-fails g c = (
  c.finish-flushed.ensures.tells_failure ∙ sym c.if-is_err.ensures.value,
  c.in-Ok.ended,
  kept_end c.args.node.now c.serve-answered.new.node c.args.source.now c.serve-answered.new.source c.args.sink.now c.serve-answered.new.sink
      c.finish-flushed.new.self c.in-Ok.ended c.in-Ok.ensures.ends c.finish-flushed.ensures.keeps,
  omega (arith, c.if-ended-ne0.true),
)

pub returns-then-is_err-clause-refuses : goal.returns-then-is_err-clause-refuses
returns-then-is_err-clause-refuses g c = λ is. absurd (omega (arith, is))

pub returns-then-ended-ne0-clause-refuses : goal.returns-then-ended-ne0-clause-refuses
returns-then-ended-ne0-clause-refuses g c = λ _.
    refuses_inside c.args.node.now c.serve-answered.new.node c.args.source.now c.serve-answered.new.source c.args.sink.now c.serve-answered.new.sink
    c.finish-flushed.new.self c.in-Ok.ended c.in-Ok.ensures.ends c.finish-flushed.ensures.keeps c.if-ended-ne0.true

pub returns-clause-answers : goal.returns-clause-answers
returns-clause-answers g c =
    answers_all c.args.node.now c.serve-answered.new.node c.args.source.now c.serve-answered.new.source c.args.sink.now c.serve-answered.new.sink
    c.finish-flushed.new.self c.in-Ok.ended c.in-Ok.ensures.ends c.finish-flushed.ensures.keeps c.if-ended-ne0.false
