use Rattle.std.proofs.lemmas.Result.{err_from_is_err_and}
use Rattle.cover_ranges.proofs.Runs.{refusal}
use Rattle.cover_ranges.proofs.set.Cover.from_ranges.Goals as goal

pub returns-in_err-judge-clause-names_the_first_fault : goal.returns-in_err-judge-clause-names_the_first_fault
returns-in_err-judge-clause-names_the_first_fault g c =
    let p = err_from_is_err_and c.from_residual.result c.from_residual.ensures.1 in
    rw (p.1, p.2) (refusal c.in_err-judge.field-0.0 c.args.ranges.now c.in_err-judge.ensures)
