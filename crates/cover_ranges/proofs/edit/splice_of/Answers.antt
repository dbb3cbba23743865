use Rattle.std.proofs.Common.{w64, rules, ◌≡◌, ◌<◌, ◌≤◌, ◌-◌, get_or}
use Rattle.std.specs.Prelude.{pos, ◌+ℤ◌, ◌-ℤ◌}
use Rattle.std.specs.Int.{int_min, int_max}
use Rattle.std.proofs.lemmas.Int.{to_z-of_z}
use mir.Val.{SFits}
use Rattle.cover_ranges.specs.Index.{IsIndexOf}
use Rattle.cover_ranges.proofs.Splice.{reaches}
use Rattle.cover_ranges.proofs.edit.splice_of.Goals as goal

pub returns : goal.returns
returns c =
    let fits_first : SFits w64 c.args.first = c.ranges.first in
    let fits_last : SFits w64 c.args.last = c.ranges.last in
    let fits_before : SFits w64 (c.args.first -ℤ pos 1) = search rules in
    let fits_after : SFits w64 (c.args.last +ℤ pos 1) = search rules in
    let index : IsIndexOf (c.args.first -ℤ pos 1) c.args.ranges.now c.index_of-start.result = simp to_z-of_z at c.index_of-start.ensures in
    let started = simp to_z-of_z at c.count_started-end.ensures.started in
    let later = simp to_z-of_z at c.count_started-end.ensures.later in
    let alone : c.count_started-end.result ≤ c.index_of-start.result → c.joined_range-range.result ≡ (c.args.first, c.args.last) = simp to_z-of_z at c.joined_range-range.ensures.alone in
    let from : c.index_of-start.result < c.count_started-end.result → c.joined_range-range.result.0 ≡ int_min c.args.first (get_or c.args.ranges.now c.index_of-start.result (pos 0, pos 0)).0 = simp to_z-of_z at c.joined_range-range.ensures.first in
    let upto : c.index_of-start.result < c.count_started-end.result → c.joined_range-range.result.1 ≡ int_max c.args.last (get_or c.args.ranges.now (c.count_started-end.result - 1) (pos 0, pos 0)).1 = simp to_z-of_z at c.joined_range-range.ensures.last in
    reaches c.args.ranges.now c.index_of-start.result c.count_started-end.result c.args.first c.args.last c.joined_range-range.result c.requires.canonical
    (c.requires.not_negative, c.requires.not_empty, c.requires.in_bounds) index c.count_started-end.ensures.within started later alone from upto
