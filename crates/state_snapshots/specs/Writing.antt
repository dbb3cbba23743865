-- Bytes that are written part by part.
use Rattle.std.specs.Prelude.{◌≡◌, ℕ, Bool, true, List, ◌++◌, Option}
use Rattle.std.specs.Io.KnownBytes.{append_known}
use Rattle.state_snapshots.specs.declared.error.WriteError.{WriteError}
use Rattle.state_snapshots.specs.declared.error.WriteError.TheVariants.{OutOfMemory, OnDisk}

-- The first of these bytes were appended to a file, and the others are left.
pub record HasWritten (before now : Option (List ℕ)) (all left : List ℕ) : Type 0 where
  pub front : List ℕ
  pub parts : front ++ left ≡ all
  pub file : now ≡ append_known before front

-- Why not all of them are: there is no memory, and the first ones were appended; or the disk has failed.
abbrev pub StopsWriting : (before now : Option (List ℕ)) (has_failed : Bool) (all : List ℕ) → WriteError → Type 0
StopsWriting before now has_failed all OutOfMemory = (left : List ℕ) × HasWritten before now all left
StopsWriting before now has_failed all (OnDisk e) = has_failed ≡ true
