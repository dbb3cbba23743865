use Rattle.std.proofs.Common.{◌≡◌, ap, length, rules, ◌∙◌}
use Rattle.request_frames.specs.Views.{request_value}
use Rattle.sessions.specs.Waiting.{WaitingState, key_of, stand_at}
use Rattle.sessions.proofs.Marked.{changes_not, nobody_stands, request_marked}
use Rattle.sessions.proofs.Standing.{same_waits}
use Rattle.sessions.proofs.waiting.Waiting.note.Goals as goal

pub returns-then-is_empty-clause-marks : goal.returns-then-is_empty-clause-marks
returns-then-is_empty-clause-marks g c =
    let none : length c.self.inside.by_partition.entries ≡ 0 = search rules in
    λ frame rest q first is. (λ name p place stand among of at. absurd (nobody_stands (key_of place) stand c.self.inside.by_partition.entries none at), λ same. absurd (changes_not same))

pub returns-then-is_empty-clause-wait_on : goal.returns-then-is_empty-clause-wait_on
returns-then-is_empty-clause-wait_on g c = λ s now asked.
    same_waits s now c.args.self.now _ asked (ap (λ (w : WaitingState). w.waits) c.self.view_is) (ap (λ (w : WaitingState). w.times) c.self.view_is) (λ key. ap (λ (w : WaitingState). stand_at w key) c.self.view_is)

pub returns-in_default-clause-marks : goal.returns-in_default-clause-marks
returns-in_default-clause-marks g c = λ frame rest q first is. absurd (c.in_default.ensures.reads frame rest q first is)

pub returns-in_default-clause-wait_on : goal.returns-in_default-clause-wait_on
returns-in_default-clause-wait_on g c = λ s now asked.
    same_waits s now c.args.self.now _ asked (ap (λ (w : WaitingState). w.waits) c.self.view_is) (ap (λ (w : WaitingState). w.times) c.self.view_is) (λ key. ap (λ (w : WaitingState). stand_at w key) c.self.view_is)

pub returns-clause-marks : goal.returns-clause-marks
returns-clause-marks g c = λ frame rest q first is.
    request_marked c.args.node.now c.state.result.now _ c.mark_all.new.self c.effect_of.result q (request_value c.in-Some.request) c.state.ensures (c.in-Some.ensures.reads frame rest q first is)
    c.mark_all.ensures.marks c.effect_of.ensures

pub returns-clause-wait_on : goal.returns-clause-wait_on
returns-clause-wait_on g c = λ s now asked.
    let marks = c.mark_all.ensures.marks in
    same_waits s now c.args.self.now c.mark_all.new.self asked (marks.waits ∙ ap (λ (w : WaitingState). w.waits) c.self.view_is) (marks.times ∙ ap (λ (w : WaitingState). w.times) c.self.view_is)
    (λ key. marks.stands key ∙ ap (λ (w : WaitingState). stand_at w key) c.self.view_is)
