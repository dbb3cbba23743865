-- What comes of a change that a request asks for, as the code goes; no definition of a reply names it.
use Rattle.std.specs.Prelude.{◌≡◌, ◌^◌, ◌<◌, ℕ, ℤ, List, Bool, true, false, Option, Some, None, Result, Ok, Err}
use Rattle.batch_codec.specs.Values.{BatchValue}
use Rattle.content.specs.declared.delivery.Delivered.{Delivered}
use Rattle.content.specs.declared.delivery.Delivered.TheVariants.{Added, Repeat}
use Rattle.content.specs.declared.delivery.DeliverError.{DeliverError}
use Rattle.content.specs.declared.delivery.DeliverError.TheVariants.{OutOfMemory}
use Rattle.content.specs.declared.report.CleanReport.{CleanReport}
use Rattle.content.specs.Content.{Content, has_seen_all, add, cut}
use Rattle.deltas.specs.Patches.{patch}
use Rattle.answering.specs.declared.codes.ErrorCode.{ErrorCode}
use Rattle.answering.specs.declared.memory.Refused.{Refused}
use Rattle.answering.specs.declared.memory.Refused.TheVariants as refused
use Rattle.broker_state.specs.declared.config.Role.{Role}
use Rattle.copy_requests.specs.declared.clean.Cleaning.{Cleaning}
use Rattle.copy_requests.specs.Clean.{cleaned, cleaning_report}
use Rattle.copy_requests.specs.Deliver.{deliver_fault}
use Rattle.answering.specs.Lists.{first_some}
use Rattle.copy_requests.specs.Import.{import_fault, imported}
use Rattle.copy_requests.specs.ImportDelta.{given_delta, delta_faults}
use Rattle.copy_requests.specs.Trim.{trim_faults}

abbrev pub is_repeat : Delivered → Bool
is_repeat Repeat = true
is_repeat Added = false

-- the refusal is that fault; where memory lacks there is none
abbrev pub IsDeliverFault : DeliverError → Option DeliverError → Type 0
IsDeliverFault OutOfMemory fault = fault ≡ None
IsDeliverFault e fault = fault ≡ Some e

-- a batch without a fault is taken, or was before; a refusal leaves the content, and a repeat takes no memory
abbrev pub Delivers : BatchValue → Result Delivered DeliverError → Content → Content → Type 0
Delivers b (Ok delivered) c after =
    (deliver_fault c b ≡ None) × (is_repeat delivered ≡ has_seen_all c b) × (after ≡ add c b)
Delivers b (Err e) c after =
    IsDeliverFault e (deliver_fault c b) × (e ≡ OutOfMemory → has_seen_all c b ≡ false) × (after ≡ c)

-- each count is an int64
pub record CountsFit (report : CleanReport) : Type 0 where
  pub records : report.records < 2 ^ 63
  pub tombstones : report.tombstones < 2 ^ 63
  pub batches : report.batches < 2 ^ 63

abbrev pub Cleans : {E : Type 0} → Cleaning → Result CleanReport E → Content → Content → Type 0
Cleans cleaning (Ok report) c after =
    (report ≡ cleaning_report cleaning c) × CountsFit report × (after ≡ cleaned cleaning c)
Cleans cleaning (Err e) c after = after ≡ c

-- the content that comes is taken, or refused for its fault, or there is no memory
abbrev pub Imports : Role → (given : Content) → Result (Unit {0}) Refused → Content → Content → Type 0
Imports role given (Ok u) here after = (import_fault role here given ≡ None) × (after ≡ imported role here given)
Imports role given (Err (refused.Check code)) here after = (import_fault role here given ≡ Some code) × (after ≡ here)
Imports role given (Err refused.OutOfMemory) here after = (import_fault role here given ≡ None) × (after ≡ here)

-- the delta that the bytes are is taken, or refused for the first fault, or there is no memory
abbrev pub Patches : List ℕ → Result (Unit {0}) Refused → Content → Content → Type 0
Patches bytes (Ok u) here after = (first_some (delta_faults here bytes) ≡ None) × (after ≡ patch here (given_delta bytes))
Patches bytes (Err (refused.Check code)) here after = (first_some (delta_faults here bytes) ≡ Some code) × (after ≡ here)
Patches bytes (Err refused.OutOfMemory) here after = (first_some (delta_faults here bytes) ≡ None) × (after ≡ here)

-- the start moves, or is refused for the first fault
abbrev pub Trims : ℤ → Result (Unit {0}) ErrorCode → Content → Content → Type 0
Trims start (Ok u) c after = (first_some (trim_faults c start) ≡ None) × (after ≡ cut start c)
Trims start (Err code) c after = (first_some (trim_faults c start) ≡ Some code) × (after ≡ c)
