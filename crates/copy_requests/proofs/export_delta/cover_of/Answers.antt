use Rattle.std.proofs.Common.{ℤ, sym, subst, ap, rules}
use Rattle.std.specs.Prelude.{FitsSigned, ◌≤ℤ◌, ◌<ℤ◌, map, pos}
use Rattle.std.specs.Int.{w64, cast_signed, cast_unsigned}
use Rattle.std.proofs.lemmas.Int.{to_z-of_z}
use Rattle.frame_fields.specs.Arrays.{values}
use Rattle.request_frames.specs.ExportDelta.{asked_fields, asked_range}
use Rattle.cover_ranges.specs.declared.TheConstants.{OFFSETS_END}
use Rattle.cover_ranges.specs.Runs.{IsRun}
use Rattle.copy_requests.proofs.Asked.{next_is_run, next_taken}
use Rattle.copy_requests.proofs.export_delta.cover_of.Goals as goal

pub insert-requires-clause-not_negative : goal.insert-requires-clause-not_negative
insert-requires-clause-not_negative g c =
    let range = c.in-Some.range in
    let first : FitsSigned w64 range.first = search rules in
    let run : IsRun (range.first, range.last) =
    next_is_run (map asked_range (values asked_fields c.args.request.now.asked)) c.loop-range.cover.runs (map asked_range (values asked_fields c.loop-range.range-iterator)) (map asked_range (values asked_fields c.next.new.self)) (range.first, range.last)
    c.requires c.loop-range.invariant (ap (map asked_range) c.in-Some.ensures.steps) in
    subst (λ (z : ℤ). pos 0 ≤ℤ z) (sym (to_z-of_z w64 range.first first)) run.0

pub insert-requires-clause-not_empty : goal.insert-requires-clause-not_empty
insert-requires-clause-not_empty g c =
    let range = c.in-Some.range in
    let first : FitsSigned w64 range.first = search rules in
    let last : FitsSigned w64 range.last = search rules in
    let run : IsRun (range.first, range.last) =
    next_is_run (map asked_range (values asked_fields c.args.request.now.asked)) c.loop-range.cover.runs (map asked_range (values asked_fields c.loop-range.range-iterator)) (map asked_range (values asked_fields c.next.new.self)) (range.first, range.last)
    c.requires c.loop-range.invariant (ap (map asked_range) c.in-Some.ensures.steps) in
    subst (λ (z : ℤ). z ≤ℤ cast_signed w64 (cast_unsigned w64 range.last)) (sym (to_z-of_z w64 range.first first))
    (subst (λ (z : ℤ). range.first ≤ℤ z) (sym (to_z-of_z w64 range.last last)) run.1)

pub insert-requires-clause-in_bounds : goal.insert-requires-clause-in_bounds
insert-requires-clause-in_bounds g c =
    let range = c.in-Some.range in
    let last : FitsSigned w64 range.last = search rules in
    let run : IsRun (range.first, range.last) =
    next_is_run (map asked_range (values asked_fields c.args.request.now.asked)) c.loop-range.cover.runs (map asked_range (values asked_fields c.loop-range.range-iterator)) (map asked_range (values asked_fields c.next.new.self)) (range.first, range.last)
    c.requires c.loop-range.invariant (ap (map asked_range) c.in-Some.ensures.steps) in
    subst (λ (z : ℤ). z <ℤ OFFSETS_END) (sym (to_z-of_z w64 range.last last)) run.2

pub loop-range-preserved : goal.loop-range-preserved
loop-range-preserved g c =
    let range = c.in-Some.range in
    let first : FitsSigned w64 range.first = search rules in
    let last : FitsSigned w64 range.last = search rules in
    next_taken (map asked_range (values asked_fields c.args.request.now.asked)) c.loop-range.cover.runs (map asked_range (values asked_fields c.loop-range.range-iterator)) (map asked_range (values asked_fields c.next.new.self)) (range.first, range.last)
    c.requires c.loop-range.invariant (ap (map asked_range) c.in-Some.ensures.steps) c.insert.new.self.runs _ _ (to_z-of_z w64 range.first first) (to_z-of_z w64 range.last last) c.in_ok-insert.ensures.adds_range
