-- Why a broker doesn't start with a directory: something failed, or what is there, or is asked for, is refused.
use Rattle.std.specs.Prelude.{◌≡◌, ◌⊎◌}
use Rattle.data_directory.specs.Directories.{DirectoryState}
use Rattle.kept_starts.specs.declared.faults.StartFault.{StartFault}
use Rattle.kept_starts.specs.declared.faults.StartFault.TheVariants.{Failed, OutOfMemory}

-- a call failed, or there was no memory
abbrev pub IsFailure : {A : Type 0} → StartFault A → Type 0
IsFailure (Failed name why) = Unit {0}
IsFailure OutOfMemory = Unit {0}
IsFailure _ = ⊥

-- something failed; or it is a refusal, and the directory is as it was
abbrev pub RefusesUnchanged : {A : Type 0} (old new : DirectoryState) → StartFault A → Type 0
RefusesUnchanged old new why = IsFailure why ⊎ (new ≡ old)
