use Rattle.std.proofs.Common.{pos, List, rules, FitsSigned, to_z, of_z}
use Rattle.std.specs.Int.{w64}
use Rattle.std.proofs.lemmas.Int.{to_z-of_z}
use Rattle.cover_ranges.specs.Runs.{Runs}
use Rattle.copy_images.specs.Judging.{ranges_of}
use Rattle.deltas.specs.Entries.{Entry}
use Rattle.deltas.specs.Deltas.{Delta}
use Rattle.deltas.specs.Accepting.{Accepts, IsFirstFault}
use Rattle.delta_bytes.specs.EntryViews.{AreEncoded}
use Rattle.side_by_side.specs.Telling.{IsTold}
use Rattle.copy_deltas.specs.DeltaParts.{AreParts, AreFrom}
use Rattle.copy_deltas.proofs.ToldBytes.{parts_told, on_ok_each, on_err_each}
use Rattle.copy_deltas.proofs.apply.judge_parts.Goals as goal

pub returns-clause-accepts : goal.returns-clause-accepts
returns-clause-accepts g c =
    let fits : FitsSigned w64 c.args.delta.now.start = search rules in
    on_ok_each c.judge.result (IsTold (to_z w64 (of_z w64 c.args.delta.now.start)) (λ (es : List Entry). AreEncoded es c.entries_of.result.bytes.now) (λ (runs : Runs). AreFrom (pos 0) runs (ranges_of c.args.delta.now.ranges.now)))
    (AreParts c.args.delta.now) (Accepts c.args.copy.now)
    (λ e are. parts_told c.args.delta.now e _ c.entries_of.result.bytes.now are (to_z-of_z w64 c.args.delta.now.start fits) (c.entries_of.ensures e are)) c.judge.ensures.accepts

pub returns-clause-refuses : goal.returns-clause-refuses
returns-clause-refuses g c =
    let fits : FitsSigned w64 c.args.delta.now.start = search rules in
    on_err_each c.judge.result (IsTold (to_z w64 (of_z w64 c.args.delta.now.start)) (λ (es : List Entry). AreEncoded es c.entries_of.result.bytes.now) (λ (runs : Runs). AreFrom (pos 0) runs (ranges_of c.args.delta.now.ranges.now)))
    (AreParts c.args.delta.now) (λ (e : Delta) base. IsFirstFault c.args.copy.now e base)
    (λ e are. parts_told c.args.delta.now e _ c.entries_of.result.bytes.now are (to_z-of_z w64 c.args.delta.now.start fits) (c.entries_of.ensures e are)) c.judge.ensures.refuses
