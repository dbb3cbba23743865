-- Why bytes are no delta: the first fault, in the order of the checks. Each fault stands in the bytes while all earlier
-- checks hold of them. What a version, a start, a body and a crc are is as in images.
use Rattle.std.specs.Prelude.{◌≡◌, ◌≢◌, ℕ, ◌<◌, ◌≤◌, ◌⊎◌, List, length}
use Rattle.std.specs.Int.{w32}
use Rattle.batch_codec.specs.Fields.{unsigned_at}
use Rattle.copy_images.specs.declared.layout.TheConstants.{VERSION, FIRST_VERSION}
use Rattle.copy_images.specs.Refusals.{version_in, IsOwnCrc, IsLogStart, start_in, body_in}
use Rattle.delta_bytes.specs.declared.layout.TheConstants.{MARK, LEAST_SIZE}
use Rattle.delta_bytes.specs.declared.error.FrontError.{FrontError}
use Rattle.delta_bytes.specs.declared.error.FrontError.TheVariants.{Short, BadMark, BadVersion, BadCrc, BadStart}
use Rattle.delta_bytes.specs.declared.error.DeltaError.{DeltaError}
use Rattle.delta_bytes.specs.declared.error.DeltaError.TheVariants.{InFront, InBody}
use Rattle.delta_bytes.specs.Faults.{BodyFault}

-- ---- what each of the first checks asks, on bytes that passed those before it

abbrev pub HasSize : List ℕ → Type 0
HasSize bytes = LEAST_SIZE ≤ length bytes

abbrev pub HasMark : List ℕ → Type 0
HasMark bytes = HasSize bytes × (unsigned_at w32 0 bytes ≡ MARK)

abbrev pub HasVersion : List ℕ → Type 0
HasVersion bytes = HasMark bytes × ((version_in bytes ≡ VERSION) ⊎ (version_in bytes ≡ FIRST_VERSION))

abbrev pub HasCrc : List ℕ → Type 0
HasCrc bytes = HasVersion bytes × IsOwnCrc bytes

abbrev pub HasStart : List ℕ → Type 0
HasStart bytes = HasCrc bytes × IsLogStart (start_in bytes)

-- ---- the first fault

abbrev pub FrontFault : List ℕ → FrontError → Type 0
FrontFault bytes Short = length bytes < LEAST_SIZE
FrontFault bytes BadMark = HasSize bytes × (unsigned_at w32 0 bytes ≢ MARK)
FrontFault bytes BadVersion = HasMark bytes × (version_in bytes ≢ VERSION) × (version_in bytes ≢ FIRST_VERSION)
FrontFault bytes BadCrc = HasVersion bytes × ¬ IsOwnCrc bytes
FrontFault bytes BadStart = HasCrc bytes × ¬ IsLogStart (start_in bytes)

abbrev pub Refuses : List ℕ → DeltaError → Type 0
Refuses bytes (InFront e) = FrontFault bytes e
Refuses bytes (InBody e) = HasStart bytes × BodyFault (start_in bytes) (body_in bytes) e
