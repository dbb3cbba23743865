use Rattle.std.proofs.Common.{◌≡◌, List, map, rules, FitsSigned, to_z, of_z}
use Rattle.std.specs.Int.{w64}
use Rattle.cover_ranges.specs.Runs.{Runs}
use Rattle.deltas.specs.Entries.{Entry}
use Rattle.deltas.specs.Entries.Entry.{Sent}
use Rattle.side_by_side.specs.Telling.{IsTold}
use Rattle.side_by_side.proofs.Agreeing.{passed_on}
use Rattle.copy_merge.proofs.Merged.{whole, is_told, merged}
use Rattle.copy_merge.proofs.merging.unite.Goals as goal

pub patch-requires : goal.patch-requires
patch-requires g c =
    let start_fits : FitsSigned w64 c.start.result = search rules in
    let told = is_told c.args.b.now (to_z w64 (of_z w64 c.start.result)) c.new.result c.cover.result.now.runs c.new.ensures.is_content (passed_on c.start.result c.args.b.now.start start_fits c.start.ensures.start) c.new.ensures.all c.cover.ensures in
    (whole c.args.b.now, told)

pub returns-clause-merges : goal.returns-clause-merges
returns-clause-merges g c =
    let start_fits : FitsSigned w64 c.start.result = search rules in
    let told = is_told c.args.b.now (to_z w64 (of_z w64 c.start.result)) c.new.result c.cover.result.now.runs c.new.ensures.is_content (passed_on c.start.result c.args.b.now.start start_fits c.start.ensures.start) c.new.ensures.all c.cover.ensures in
    merged c.patch.result c.args.a.now c.args.b.now c.patch.new.copy (IsTold (to_z w64 (of_z w64 c.start.result)) (λ (es : List Entry). es ≡ map Sent c.new.result) (λ (runs : Runs). c.cover.result.now.runs ≡ runs)) told c.patch.ensures.patches
