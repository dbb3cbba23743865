use Rattle.std.proofs.Common.{◌≡◌, ◌+◌, length, rules}
use Rattle.std.specs.Prelude.{drop}
use Rattle.frame_fields.specs.declared.frame.TheConstants.{SIZE_BYTES}
use Rattle.frame_fields.specs.Frames.{IsFirstFrame}
use Rattle.sessions.specs.Steps.{AnswersFrame}
use Rattle.sessions.proofs.Turning.{first_answered}
use Rattle.sessions.proofs.replying.answer_held.Goals as goal

pub returns-clause-answers : goal.returns-clause-answers
returns-clause-answers g c =
    let same : c.advance.new.self.items ≡ drop (SIZE_BYTES + length c.in-Ok-Some.frame.now) c.args.held.now.items = search rules in
    let first : IsFirstFrame c.in-Ok-Some.frame.now c.args.held.now.items (drop (SIZE_BYTES + length c.in-Ok-Some.frame.now) c.args.held.now.items) = search rules in
    let answered : AnswersFrame c.in-Answered.is_dear c.args.may_wait c.args.node.now c.answer.new.node c.in-Ok-Some.frame.now c.args.out.now.items c.answer.new.out.items = search rules in
    first_answered c.in-Answered.is_dear c.args.may_wait _ _ c.in-Ok-Some.frame.now _ _ _ _ _ same first answered
