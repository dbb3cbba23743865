use Rattle.std.proofs.Common.{w64, arith}
use Rattle.std.specs.Prelude.{MatchBool}
use Rattle.std.proofs.lemmas.Int.{ints, to_z-of_z}
use mir.Val.{SFits}
use Rattle.cover_ranges.specs.Index.{IsIndexOf, StartsBy, StartsPast}
use Rattle.cover_ranges.proofs.Runs.{any_says}
use Rattle.cover_ranges.proofs.search.has_any.Goals as goal

pub returns : goal.returns
returns c =
    let fits : SFits w64 c.args.first = c.ranges.first in
    let fits_last : SFits w64 c.args.last = c.ranges.last in
    let index : IsIndexOf c.args.first c.args.ranges.now c.index_of-at.result = simp to_z-of_z at c.index_of-at.ensures in
    let starts : MatchBool c.starts_by.result (StartsBy c.args.last c.args.ranges.now c.index_of-at.result) (StartsPast c.args.last c.args.ranges.now c.index_of-at.result) = simp to_z-of_z at c.starts_by.ensures in
    any_says c.args.ranges.now c.args.first c.args.last c.index_of-at.result c.starts_by.result c.requires index (omega (arith, ints)) starts
