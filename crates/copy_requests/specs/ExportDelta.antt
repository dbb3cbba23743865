-- Export, version 1: the delta of a partition is sent, for one that has the asked offsets. This project's own request. The
-- order of the checks is this project's own.
pub mod Sending
use Rattle.std.specs.Prelude.{ℕ, pos, true, not, nat_lt, List, [], ◌∷◌, length, Option}
use Rattle.cover_ranges.specs.Runs.{Runs}
use Rattle.content.specs.Content.{Content}
use Rattle.deltas.specs.Deltas.{delta_of}
use Rattle.delta_bytes.specs.Deltas.{delta_encoding}
use Rattle.copy_images.specs.Reading.{are_runs}
use Rattle.request_frames.specs.ExportDelta.{ExportDeltaValue}
use Rattle.answering.specs.declared.codes.ErrorCode.{ErrorCode}
use Rattle.answering.specs.declared.codes.ErrorCode.TheVariants.{InvalidRequest, MessageTooLarge}
use Rattle.answering.specs.Lists.{fault_if}
use Rattle.answering.specs.Codes.{no_error, code_number}
use Rattle.answering.specs.Work.{Work}
use Rattle.broker_state.specs.State.{State, content_at}
use Rattle.broker_state.specs.Checks.{unknown}
use Rattle.copy_requests.specs.Export.{ExportResult}
use Rattle.copy_requests.specs.declared.export.TheConstants.{MAX_EXPORT_BYTES}

-- what is asked has to be the maximal ranges of a set of offsets
abbrev pub asked_fault : Runs → Option ErrorCode
asked_fault asked = fault_if (not (are_runs (pos 0) asked)) InvalidRequest

-- the bytes of the delta
abbrev pub delta_for : Content → (asked : Runs) → List ℕ
delta_for c asked = delta_encoding (delta_of c asked)

abbrev pub size_fault : Content → (asked : Runs) → Option ErrorCode
size_fault c asked = fault_if (nat_lt MAX_EXPORT_BYTES (length (delta_for c asked))) MessageTooLarge

-- The set of the asked offsets takes memory, before it is known how long the delta is.
abbrev pub export_delta_work : State → ExportDeltaValue → Work ExportResult State
export_delta_work s q =
    let c = content_at s q.topic q.partition in
    record {
      early = unknown s q.topic q.partition ∷ asked_fault q.asked ∷ [];
      takes_memory = true;
      late = size_fault c q.asked ∷ [];
      done = (record { code = no_error; sent = delta_for c q.asked }, s);
      failed = λ code. record { code = code_number code; sent = [] };
    }
