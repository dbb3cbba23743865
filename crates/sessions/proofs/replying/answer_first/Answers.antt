use Rattle.std.proofs.Common.{rules}
use Rattle.sessions.specs.Steps.{AnswersDear}
use Rattle.sessions.proofs.replying.answer_first.Goals as goal

pub returns-in-Answered-clause-answers : goal.returns-in-Answered-clause-answers
returns-in-Answered-clause-answers g c =
    let answered : AnswersDear c.in-Answered.field-0 c.args.may_wait c.args.node.now c.answer_held.new.node c.args.held.now.items c.answer_held.new.held.items c.args.out.now.items c.answer_held.new.out.items = search rules in
    answered.answer
