use Rattle.std.proofs.Common.{arith, w64, get_or}
use Rattle.std.specs.Prelude.{pos}
use Rattle.std.proofs.lemmas.Int.{ints, to_z-of_z}
use mir.Val.{SFits, to_z, of_z}
use Rattle.cover_ranges.specs.Runs.{IsRun}
use Rattle.cover_ranges.specs.Index.{StartsBy, StartsPast}
use Rattle.cover_ranges.proofs.Runs.{missing_first, all_says, false_is_not_true}
use Rattle.cover_ranges.proofs.search.holds_all.Goals as goal

pub returns-then-not-starts_by : goal.returns-then-not-starts_by
returns-then-not-starts_by c =
    let fits : SFits w64 c.args.first = c.ranges.first in
    let past : StartsPast c.args.first c.args.ranges.now c.args.at = simp to_z-of_z at c.if-not-starts_by.ensures in (
      (λ never. absurd (false_is_not_true never)),
      (λ all. absurd (missing_first c.args.ranges.now c.args.first c.args.last c.args.at c.requires.canonical c.requires.index c.requires.some past all)),
    )

pub returns : goal.returns
returns c =
    let fits : SFits w64 c.args.first = c.ranges.first in
    let by : StartsBy c.args.first c.args.ranges.now c.args.at = simp to_z-of_z at c.if-not-starts_by.ensures in
    let run : IsRun (get_or c.args.ranges.now c.args.at (pos 0, pos 0)) = c.requires.canonical.are_runs c.args.at (pos 0, pos 0) by.0 in
    all_says c.args.ranges.now c.args.first c.args.last c.args.at (pos 0, pos 0) (to_z w64 (of_z w64 c.args.last)) (to_z w64 (of_z w64 (get_or c.args.ranges.now c.args.at (pos 0, pos 0)).1)) (omega (arith, ints)) (omega (arith, ints)) c.requires.canonical c.requires.index c.requires.some by
