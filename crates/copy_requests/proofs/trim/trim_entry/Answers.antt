use Rattle.std.proofs.Common.{FitsSigned, of_z, to_z, sym, ap, subst, ◌∙◌, rules}
use Rattle.std.specs.Int.{w16, w32, w64}
use Rattle.std.proofs.lemmas.Int.{to_z-of_z}
use Rattle.request_frames.specs.Trim.{TrimValue, trim_view}
use Rattle.answering.specs.Codes.{code_number}
use Rattle.answering.specs.Refusals.{refused_memory}
use Rattle.answering.specs.Telling.{AnswersTold}
use Rattle.answering.specs.Doing.{RefusesWork}
use Rattle.answering.proofs.Told.{refused_told}
use Rattle.copy_requests.specs.Trim.{trim_work}
use Rattle.copy_requests.proofs.trim.trim_entry.Goals as goal

pub returns-in-Err : goal.returns-in-Err
returns-in-Err g c =
    let s = c.args.state.now in
    let q = c.args.request.now in
    let after = c.try_trim.new.state in
    let refused = c.in-Err.refused in
    let partition : FitsSigned w32 q.partition = search rules in
    let start : FitsSigned w64 q.start = search rules in
    let did = subst (λ (v : TrimValue). RefusesWork (trim_work s v) refused s after)
    (λ i. record { topic = q.topic.now; partition = to_z-of_z w32 q.partition partition i; start = to_z-of_z w64 q.start start i }) c.in-Err.ensures in
    let number : FitsSigned w16 c.number-code.result = search rules in
    let shown = to_z-of_z w16 c.number-code.result number ∙ c.number-code.ensures ∙ ap code_number c.code.ensures in
    subst (λ m. AnswersTold m (trim_work s (trim_view q)) s (record { code = to_z w16 (of_z w16 c.number-code.result) }) after) (sym c.memory.ensures)
    (subst (λ code. AnswersTold (refused_memory refused) (trim_work s (trim_view q)) s (record { code = code }) after) (sym shown)
    (refused_told (trim_work s (trim_view q)) refused s after did))
