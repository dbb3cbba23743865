use Rattle.std.proofs.Common.{arith, w64}
use Rattle.std.proofs.lemmas.Int.{to_z-of_z}
use mir.Val.{SFits}
use Rattle.cover_ranges.specs.Index.{IsIndexOf, StartsPast}
use Rattle.cover_ranges.proofs.Runs.{past_index, starts_past}
use Rattle.cover_ranges.proofs.search.count_started.Goals as goal

pub returns-then-starts_by-clause-later : goal.returns-then-starts_by-clause-later
returns-then-starts_by-clause-later c =
    let fits : SFits w64 c.args.offset = c.ranges.offset in
    let index : IsIndexOf c.args.offset c.args.ranges.now c.index_of-at.result = simp to_z-of_z at c.index_of-at.ensures in
    λ k d le h. past_index c.args.ranges.now c.args.offset c.index_of-at.result c.requires index k d (omega arith) h

pub returns-else-starts_by-clause-later : goal.returns-else-starts_by-clause-later
returns-else-starts_by-clause-later c =
    let fits : SFits w64 c.args.offset = c.ranges.offset in
    let past : StartsPast c.args.offset c.args.ranges.now c.index_of-at.result = simp to_z-of_z at c.if-starts_by.ensures in
    λ k d le h. starts_past c.args.ranges.now c.index_of-at.result c.args.offset c.requires past k d le h
