use Rattle.std.proofs.Common.{◌++◌, Ok, to_z, of_z, [], ap, subst, ◌∙◌, FitsSigned, rules}
use Rattle.std.specs.Int.{w16, w32}
use Rattle.std.proofs.lemmas.Int.{to_z-of_z}
use Rattle.answering.specs.Codes.{no_error, code_number}
use Rattle.answering.specs.Doing.{FailsWork, DoesWork}
use Rattle.answering.proofs.Begun.{on_ok}
use Rattle.copy_requests.specs.Export.{export_work, export_sent}
use Rattle.copy_requests.proofs.Entries.{export_answer, done_answers, failed_answers, written}
use Rattle.copy_requests.proofs.export.reply_to_export.Goals as goal

pub returns-in-Ok-clause-responds : goal.returns-in-Ok-clause-responds
returns-in-Ok-clause-responds g c =
    let s = c.args.state.now in
    let q = c.args.request.now in
    let fits : FitsSigned w32 q.partition = search rules in
    let result = export_answer in
    let did = subst (λ p. DoesWork (export_work s (record { topic = q.topic.now; partition = p })) result (Ok c.in-Ok.image) s s) (to_z-of_z w32 q.partition fits) c.in-Ok.ensures in
    on_ok c.put_answer.result
    (λ e. written export_sent (export_work s (record { topic = q.topic.now; partition = q.partition })) s s (result c.in-Ok.image) c.args.correlation _ c.args.out.now.items c.put_answer.new.out.items (to_z-of_z w32 c.args.correlation c.ranges.correlation)
    (done_answers (export_work s (record { topic = q.topic.now; partition = q.partition })) result c.in-Ok.image s s did)
    (e ∙ ap (λ image. c.args.out.now.items ++ export_sent (to_z w32 (of_z w32 c.args.correlation)) (record { code = no_error; sent = image })) c.deref.ensures.value))
    c.put_answer.ensures.appends

pub returns-in-Err-clause-responds : goal.returns-in-Err-clause-responds
returns-in-Err-clause-responds g c =
    let s = c.args.state.now in
    let q = c.args.request.now in
    let n = c.args.correlation in
    let fits : FitsSigned w32 q.partition = search rules in
    let number : FitsSigned w16 c.number.result = search rules in
    let did = subst (λ p. FailsWork (export_work s (record { topic = q.topic.now; partition = p })) c.in-Err.fault s s) (to_z-of_z w32 q.partition fits) c.in-Err.ensures in
    on_ok c.put_answer-in-Err.result
    (λ e. written export_sent (export_work s (record { topic = q.topic.now; partition = q.partition })) s s (record { code = code_number c.in-Err.fault; sent = [] }) n (to_z w32 (of_z w32 n)) c.args.out.now.items c.put_answer-in-Err.new.out.items (to_z-of_z w32 n c.ranges.correlation)
    (failed_answers (export_work s (record { topic = q.topic.now; partition = q.partition })) c.in-Err.fault s s did)
    (e ∙ ap (λ code. c.args.out.now.items ++ export_sent (to_z w32 (of_z w32 n)) (record { code = code; sent = [] })) (to_z-of_z w16 c.number.result number ∙ c.number.ensures)))
    c.put_answer-in-Err.ensures.appends
