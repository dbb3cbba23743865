-- Export, version 1: the delta that is made, as the code goes.
use Rattle.std.specs.Prelude.{◌≡◌, ◌⊎◌, ℕ, None, Some, Result, Ok, Err}
use Rattle.std.specs.declared.vec.Vec.{Vec}
use Rattle.cover_ranges.specs.Runs.{Runs}
use Rattle.content.specs.Content.{Content}
use Rattle.answering.specs.declared.codes.ErrorCode.{ErrorCode}
use Rattle.answering.specs.declared.codes.ErrorCode.TheVariants.{StorageError}
use Rattle.copy_requests.specs.ExportDelta.{delta_for, size_fault}

-- the delta; or it is too long, or memory lacks
abbrev pub IsDeltaFor : {A : Type 0} → Content → (asked : Runs) → Result (Vec ℕ A) ErrorCode → Type 0
IsDeltaFor c asked (Ok delta) = (size_fault c asked ≡ None) × (delta.items ≡ delta_for c asked)
IsDeltaFor c asked (Err code) = (size_fault c asked ≡ Some code) ⊎ (code ≡ StorageError)
