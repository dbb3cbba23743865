use Rattle.std.proofs.Common.{◌+◌, drop, length, rules}
use Rattle.frame_fields.specs.Frames.{IsFirstFrame}
use Rattle.request_frames.specs.Views.{request_value}
use Rattle.sessions.proofs.Requested.{is_none, is_that}
use Rattle.sessions.proofs.waiting.first_request.Goals as goal

pub returns-in-Ok : goal.returns-in-Ok
returns-in-Ok c =
    let there : IsFirstFrame c.in-Ok-Some.frame.now c.args.held.now (drop (4 + length c.in-Ok-Some.frame.now) c.args.held.now) = search rules in
    record { reads = λ frame rest q first is. is_that c.args.held.now frame rest q first is c.in-Ok-Some.frame.now _ there (request_value c.in-Ok.request) c.in-Ok.ensures.reads }

pub returns-in-Err-parse : goal.returns-in-Err-parse
returns-in-Err-parse c =
    let there : IsFirstFrame c.in-Ok-Some.frame.now c.args.held.now (drop (4 + length c.in-Ok-Some.frame.now) c.args.held.now) = search rules in
    record { reads = λ frame rest q first is. is_none c.args.held.now frame rest q first is c.in-Ok-Some.frame.now _ there c.in-Err-parse.field-0 c.in-Err-parse.ensures.refuses }
