use Rattle.std.proofs.Common.{◌≡◌, pos}
use Rattle.std.specs.Prelude.{map}
use Rattle.frame_fields.specs.Arrays.{values}
use Rattle.request_frames.specs.ExportDelta.{asked_fields, asked_range}
use Rattle.copy_images.specs.Reading.{are_runs}
use Rattle.copy_requests.proofs.export_delta.are_runs.Given as goal

abbrev pub invariant-loop-range : goal.invariant-loop-range
invariant-loop-range l =
    are_runs l.least (map asked_range (values asked_fields l.range-iterator)) ≡ are_runs (pos 0) (map asked_range (values asked_fields l.fn.request.asked))
