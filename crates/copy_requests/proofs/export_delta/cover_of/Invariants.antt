use Rattle.std.proofs.Common.{◌≡◌, ◌++◌}
use Rattle.std.specs.Prelude.{map}
use Rattle.frame_fields.specs.Arrays.{values}
use Rattle.request_frames.specs.ExportDelta.{asked_fields, asked_range}
use Rattle.copy_requests.proofs.export_delta.cover_of.Given as goal

abbrev pub invariant-loop-range : goal.invariant-loop-range
invariant-loop-range g l =
    l.cover.runs ++ map asked_range (values asked_fields l.range-iterator) ≡ map asked_range (values asked_fields l.fn.request.asked)
