use Rattle.std.proofs.Common.{◌++◌, to_z, of_z, [], ap, ◌∙◌, FitsSigned, rules}
use Rattle.std.specs.Int.{w16, w32}
use Rattle.std.proofs.lemmas.Int.{to_z-of_z}
use Rattle.answering.specs.Codes.{no_error, code_number}
use Rattle.answering.proofs.Begun.{on_ok}
use Rattle.request_frames.specs.ExportDelta.{export_delta_view}
use Rattle.copy_requests.specs.Export.{export_sent}
use Rattle.copy_requests.specs.ExportDelta.{export_delta_work}
use Rattle.copy_requests.proofs.Entries.{export_answer, done_answers, failed_answers, written}
use Rattle.copy_requests.proofs.export_delta.reply_to_export_delta.Goals as goal

pub returns-in-Ok-clause-responds : goal.returns-in-Ok-clause-responds
returns-in-Ok-clause-responds g c =
    let s = c.args.state.now in
    let work = export_delta_work s (export_delta_view c.args.request.now) in
    on_ok c.put_answer.result
    (λ e. written export_sent work s s (export_answer c.in-Ok.delta) c.args.correlation _ c.args.out.now.items c.put_answer.new.out.items (to_z-of_z w32 c.args.correlation c.ranges.correlation)
    (done_answers work export_answer c.in-Ok.delta s s c.in-Ok.ensures)
    (e ∙ ap (λ sent. c.args.out.now.items ++ export_sent (to_z w32 (of_z w32 c.args.correlation)) (record { code = no_error; sent = sent })) c.deref.ensures.value))
    c.put_answer.ensures.appends

pub returns-in-Err-clause-responds : goal.returns-in-Err-clause-responds
returns-in-Err-clause-responds g c =
    let s = c.args.state.now in
    let n = c.args.correlation in
    let work = export_delta_work s (export_delta_view c.args.request.now) in
    let number : FitsSigned w16 c.number.result = search rules in
    on_ok c.put_answer-in-Err.result
    (λ e. written export_sent work s s (record { code = code_number c.in-Err.fault; sent = [] }) n (to_z w32 (of_z w32 n)) c.args.out.now.items c.put_answer-in-Err.new.out.items (to_z-of_z w32 n c.ranges.correlation)
    (failed_answers work c.in-Err.fault s s c.in-Err.ensures)
    (e ∙ ap (λ code. c.args.out.now.items ++ export_sent (to_z w32 (of_z w32 n)) (record { code = code; sent = [] })) (to_z-of_z w16 c.number.result number ∙ c.number.ensures)))
    c.put_answer-in-Err.ensures.appends
