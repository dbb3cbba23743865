use Rattle.std.proofs.Common.{◌≡◌, ◌∙◌, sym, ap, subst, FitsSigned, rules}
use Rattle.std.specs.Prelude.{IfOk}
use Rattle.std.specs.Int.{w64}
use Rattle.std.proofs.lemmas.Int.{to_z-of_z}
use Rattle.content.specs.declared.report.CleanReport.{CleanReport}
use Rattle.content.specs.Cleaning.{clean_report}
use Rattle.cluster.specs.declared.cleaning.Cleaning.{Cleaning}
use Rattle.cluster.specs.Parts.{reported}
use Rattle.cluster.proofs.cleaning.clean_log.Goals as goal

pub returns-in-Whole-clause-reports : goal.returns-in-Whole-clause-reports
returns-in-Whole-clause-reports g c =
    let upto : FitsSigned w64 c.in-Whole.upto = search rules in
    let tomb_before : FitsSigned w64 c.in-Whole.tomb_before = search rules in
    subst (λ (told : CleanReport). IfOk c.clean.result (λ report. report ≡ told))
    ((λ i. clean_report (to_z-of_z w64 c.in-Whole.upto upto i) (to_z-of_z w64 c.in-Whole.tomb_before tomb_before i) c.args.log.now) ∙ ap (λ (x : Cleaning). reported x c.args.log.now) (sym c.in-Whole.is))
    c.clean.ensures.reports
