use Rattle.std.proofs.Common.{w64}
use Rattle.std.specs.Prelude.{MatchBool}
use Rattle.std.proofs.lemmas.Int.{to_z-of_z}
use mir.Val.{SFits}
use Rattle.cover_ranges.specs.Index.{IsIndexOf, StartsBy, StartsPast}
use Rattle.cover_ranges.proofs.Runs.{contains_says}
use Rattle.cover_ranges.proofs.search.contains.Goals as goal

pub returns : goal.returns
returns c =
    let fits : SFits w64 c.args.offset = c.ranges.offset in
    let index : IsIndexOf c.args.offset c.args.ranges.now c.index_of-at.result = simp to_z-of_z at c.index_of-at.ensures in
    let starts : MatchBool c.starts_by.result (StartsBy c.args.offset c.args.ranges.now c.index_of-at.result) (StartsPast c.args.offset c.args.ranges.now c.index_of-at.result) = simp to_z-of_z at c.starts_by.ensures in
    contains_says c.args.ranges.now c.args.offset c.index_of-at.result c.starts_by.result c.requires index starts
