use Rattle.std.proofs.Common.{◌++◌, Ok, to_z, of_z, [], ap, subst, ◌∙◌, FitsSigned, rules}
use Rattle.std.specs.Int.{w16, w32}
use Rattle.std.proofs.lemmas.Int.{to_z-of_z}
use Rattle.answering.specs.Codes.{code_number}
use Rattle.answering.specs.Doing.{FailsWork, DoesWork}
use Rattle.answering.proofs.Begun.{on_ok}
use Rattle.copy_requests.specs.Cover.{cover_work, cover_sent}
use Rattle.copy_requests.proofs.Entries.{cover_answer, done_answers, failed_answers, written}
use Rattle.copy_requests.proofs.cover.reply_to_cover.Goals as goal

pub returns-in-Ok-clause-responds : goal.returns-in-Ok-clause-responds
returns-in-Ok-clause-responds g c =
    let s = c.args.state.now in
    let q = c.args.request.now in
    let fits : FitsSigned w32 q.partition = search rules in
    let result = cover_answer in
    let did = subst (λ p. DoesWork (cover_work s (record { topic = q.topic.now; partition = p })) result (Ok c.in-Ok.runs) s s) (to_z-of_z w32 q.partition fits) c.in-Ok.ensures in
    on_ok c.put_answer.result
    (written cover_sent (cover_work s (record { topic = q.topic.now; partition = q.partition })) s s (result c.in-Ok.runs) c.args.correlation _ c.args.out.now.items c.put_answer.new.out.items (to_z-of_z w32 c.args.correlation c.ranges.correlation)
    (done_answers (cover_work s (record { topic = q.topic.now; partition = q.partition })) result c.in-Ok.runs s s did))
    c.put_answer.ensures.appends

pub returns-in-Err-clause-responds : goal.returns-in-Err-clause-responds
returns-in-Err-clause-responds g c =
    let s = c.args.state.now in
    let q = c.args.request.now in
    let n = c.args.correlation in
    let fits : FitsSigned w32 q.partition = search rules in
    let number : FitsSigned w16 c.number.result = search rules in
    let did = subst (λ p. FailsWork (cover_work s (record { topic = q.topic.now; partition = p })) c.in-Err.fault s s) (to_z-of_z w32 q.partition fits) c.in-Err.ensures in
    on_ok c.put_answer-in-Err.result
    (λ e. written cover_sent (cover_work s (record { topic = q.topic.now; partition = q.partition })) s s (record { code = code_number c.in-Err.fault; runs = [] }) n (to_z w32 (of_z w32 n)) c.args.out.now.items c.put_answer-in-Err.new.out.items (to_z-of_z w32 n c.ranges.correlation)
    (failed_answers (cover_work s (record { topic = q.topic.now; partition = q.partition })) c.in-Err.fault s s did)
    (e ∙ ap (λ code. c.args.out.now.items ++ cover_sent (to_z w32 (of_z w32 n)) (record { code = code; runs = [] })) (to_z-of_z w16 c.number.result number ∙ c.number.ensures)))
    c.put_answer-in-Err.ensures.appends
