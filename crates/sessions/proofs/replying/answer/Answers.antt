use Rattle.request_frames.specs.Views.{request_value}
use Rattle.sessions.proofs.Turning.{frame_answered}
use Rattle.sessions.proofs.replying.answer.Goals as goal

pub returns-in-Ok-handle-clause-answers : goal.returns-in-Ok-handle-clause-answers
returns-in-Ok-handle-clause-answers g c =
    frame_answered _ c.args.may_wait _ _ _ _ _ (request_value c.in-Ok.request) c.in-Ok.ensures.reads c.in_default.ensures.waits_not c.in-Ok-handle.ensures.responds c.is_dear.ensures
