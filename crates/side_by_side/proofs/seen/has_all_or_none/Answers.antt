use Rattle.std.proofs.Common.{◌∙◌, rules, FitsSigned, to_z, of_z}
use Rattle.std.specs.Int.{w64}
use Rattle.std.proofs.lemmas.Int.{to_z-of_z}
use Rattle.side_by_side.proofs.Agreeing.{none_or_part}
use Rattle.side_by_side.proofs.seen.has_all_or_none.Goals as goal

pub returns-else-has_all : goal.returns-else-has_all
returns-else-has_all g c =
    let first_fits : FitsSigned w64 c.base-first.result = search rules in
    let last_fits : FitsSigned w64 c.last_offset-last.result = search rules in
    none_or_part c.args.seen.now.runs c.args.batch.now (to_z w64 (of_z w64 c.base-first.result)) (to_z w64 (of_z w64 c.last_offset-last.result)) c.has_all.result c.has_any.result
    (to_z-of_z w64 c.base-first.result first_fits ∙ c.base-first.ensures) (to_z-of_z w64 c.last_offset-last.result last_fits ∙ c.last_offset-last.ensures) c.if-has_all.false c.has_all.ensures c.has_any.ensures
