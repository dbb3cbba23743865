use Rattle.std.proofs.Common.{w64, arith, get_or}
use Rattle.std.specs.Prelude.{pos, ◌+ℤ◌}
use Rattle.std.proofs.lemmas.Int.{ints, to_z-of_z}
use mir.Val.{SFits, to_z, of_z}
use Rattle.cover_ranges.specs.Runs.{IsRun}
use Rattle.cover_ranges.specs.Index.{IsIndexOf, StartsBy, StartsPast}
use Rattle.cover_ranges.proofs.Runs.{gap_missing, gap_least, from_missing}
use Rattle.cover_ranges.proofs.search.first_gap.Goals as goal

pub returns-then-starts_by-clause-missing : goal.returns-then-starts_by-clause-missing
returns-then-starts_by-clause-missing c =
    let fits : SFits w64 c.args.from = c.ranges.from in
    let by : StartsBy c.args.from c.args.ranges.now c.index_of-at.result = simp to_z-of_z at c.if-starts_by.ensures in
    let run : IsRun (get_or c.args.ranges.now c.index_of-at.result (pos 0, pos 0)) = c.requires.are_runs c.index_of-at.result (pos 0, pos 0) by.0 in
    gap_missing c.args.ranges.now c.index_of-at.result (pos 0, pos 0) (to_z w64 (of_z w64 (to_z w64 (of_z w64 (get_or c.args.ranges.now c.index_of-at.result (pos 0, pos 0)).1) +ℤ pos 1))) (omega (arith, ints)) c.requires by.0

pub returns-then-starts_by-clause-least : goal.returns-then-starts_by-clause-least
returns-then-starts_by-clause-least c =
    let fits : SFits w64 c.args.from = c.ranges.from in
    let by : StartsBy c.args.from c.args.ranges.now c.index_of-at.result = simp to_z-of_z at c.if-starts_by.ensures in
    let run : IsRun (get_or c.args.ranges.now c.index_of-at.result (pos 0, pos 0)) = c.requires.are_runs c.index_of-at.result (pos 0, pos 0) by.0 in
    gap_least c.args.ranges.now c.args.from c.index_of-at.result (pos 0, pos 0) (to_z w64 (of_z w64 (to_z w64 (of_z w64 (get_or c.args.ranges.now c.index_of-at.result (pos 0, pos 0)).1) +ℤ pos 1))) (omega (arith, ints)) by

pub returns-clause-missing : goal.returns-clause-missing
returns-clause-missing c =
    let fits : SFits w64 c.args.from = c.ranges.from in
    let index : IsIndexOf c.args.from c.args.ranges.now c.index_of-at.result = simp to_z-of_z at c.index_of-at.ensures in
    let past : StartsPast c.args.from c.args.ranges.now c.index_of-at.result = simp to_z-of_z at c.if-starts_by.ensures in
    simp to_z-of_z (from_missing c.args.ranges.now c.args.from c.index_of-at.result c.requires index past)
