-- What comes of bytes that a copy is to take as a delta, where memory suffices: the delta that it takes, or why it refuses.
use Rattle.std.specs.Prelude.{◌≢◌, ℕ, List, Result, Ok, Err}
use Rattle.content.specs.Content.{Content}
use Rattle.deltas.specs.Deltas.{Delta}
use Rattle.copy_deltas.specs.declared.error.PatchError.{PatchError}
use Rattle.copy_deltas.specs.declared.error.PatchError.TheVariants.{OutOfMemory}
use Rattle.copy_deltas.specs.Applying.{TakesDelta, RefusesDelta}

abbrev pub IsOutcome : Content → List ℕ → Result Delta PatchError → Type 0
IsOutcome c bytes (Ok e) = TakesDelta c bytes e
IsOutcome c bytes (Err fault) = (fault ≢ OutOfMemory) × RefusesDelta c bytes fault
