use Rattle.std.proofs.Common.{◌≡◌, List, map, rules, FitsSigned, to_z, of_z}
use Rattle.std.specs.Int.{w64}
use Rattle.cover_ranges.specs.Runs.{Runs}
use Rattle.deltas.specs.Entries.{Entry}
use Rattle.deltas.specs.Entries.Entry.{Sent}
use Rattle.side_by_side.specs.Telling.{IsTold}
use Rattle.side_by_side.proofs.Agreeing.{passed_on}
use Rattle.copy_merge.proofs.Merged.{whole, is_told, agreed, disagreed}
use Rattle.copy_merge.proofs.merging.agree.Goals as goal

pub judge-requires : goal.judge-requires
judge-requires g c =
    let start_fits : FitsSigned w64 c.start.result = search rules in
    let told = is_told c.args.b.now (to_z w64 (of_z w64 c.start.result)) c.new.result c.cover.result.now.runs c.new.ensures.is_content (passed_on c.start.result c.args.b.now.start start_fits c.start.ensures.start) c.new.ensures.all c.cover.ensures in
    (whole c.args.b.now, told)

pub returns-clause-agrees : goal.returns-clause-agrees
returns-clause-agrees g c =
    let start_fits : FitsSigned w64 c.start.result = search rules in
    let told = is_told c.args.b.now (to_z w64 (of_z w64 c.start.result)) c.new.result c.cover.result.now.runs c.new.ensures.is_content (passed_on c.start.result c.args.b.now.start start_fits c.start.ensures.start) c.new.ensures.all c.cover.ensures in
    agreed c.judge.result c.args.a.now c.args.b.now (IsTold (to_z w64 (of_z w64 c.start.result)) (λ (es : List Entry). es ≡ map Sent c.new.result) (λ (runs : Runs). c.cover.result.now.runs ≡ runs)) told c.judge.ensures.accepts

pub returns-clause-disagrees : goal.returns-clause-disagrees
returns-clause-disagrees g c =
    let start_fits : FitsSigned w64 c.start.result = search rules in
    let told = is_told c.args.b.now (to_z w64 (of_z w64 c.start.result)) c.new.result c.cover.result.now.runs c.new.ensures.is_content (passed_on c.start.result c.args.b.now.start start_fits c.start.ensures.start) c.new.ensures.all c.cover.ensures in
    disagreed c.judge.result c.args.a.now c.args.b.now (IsTold (to_z w64 (of_z w64 c.start.result)) (λ (es : List Entry). es ≡ map Sent c.new.result) (λ (runs : Runs). c.cover.result.now.runs ≡ runs)) told c.judge.ensures.refuses
