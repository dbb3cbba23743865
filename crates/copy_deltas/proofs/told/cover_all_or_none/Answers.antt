use Rattle.std.proofs.Common.{◌∙◌, rules, FitsSigned, to_z, of_z}
use Rattle.std.specs.Int.{w64}
use Rattle.std.proofs.lemmas.Int.{to_z-of_z}
use Rattle.copy_images.specs.Judging.{ranges_of}
use Rattle.side_by_side.proofs.Agreeing.{none_or_part}
use Rattle.copy_deltas.proofs.told.cover_all_or_none.Goals as goal

pub returns-else-covers_all : goal.returns-else-covers_all
returns-else-covers_all c =
    let first_fits : FitsSigned w64 c.base-first.result = search rules in
    let last_fits : FitsSigned w64 c.last_offset-last.result = search rules in
    none_or_part (ranges_of c.args.ranges.now) c.args.batch.now (to_z w64 (of_z w64 c.base-first.result)) (to_z w64 (of_z w64 c.last_offset-last.result)) c.covers_all.result c.covers_any.result
    (to_z-of_z w64 c.base-first.result first_fits ∙ c.base-first.ensures) (to_z-of_z w64 c.last_offset-last.result last_fits ∙ c.last_offset-last.ensures) c.if-covers_all.false c.covers_all.ensures c.covers_any.ensures
