-- Why bytes don't begin with the head of a snapshot: the first of these that holds.
use Rattle.std.specs.Prelude.{◌≡◌, ◌≢◌, ◌⊎◌, ℕ, ℤ, List, [], Option, None, Some}
use Rattle.frame_fields.specs.declared.error.FieldFault.{FieldFault}
use Rattle.frame_fields.specs.declared.error.FieldFault.TheVariants as field
use Rattle.frame_fields.specs.Fields.{Value, Encodes, Breaks, end}
use Rattle.frame_fields.specs.Types.{bytes, ◌⨾◌}
use Rattle.frame_fields.specs.Reading.{nothing}
use Rattle.snapshots.specs.declared.layout.TheConstants.{MARK, OLD_VERSION, VERSION}
use Rattle.snapshots.specs.declared.error.SnapshotError.{SnapshotError}
use Rattle.snapshots.specs.declared.error.SnapshotError.TheVariants.{Short, BadMark, BadVersion, BadSize, BadCrc, BadFields}
use Rattle.snapshots.specs.Heads.{covered, key_fields, snapshot_fields, start_fields, signed_crc, version_of}

-- Bytes begin with a crc, a mark and a version, and more follows.
pub record HasStart (crc mark version : ℤ) (all behind : List ℕ) : Type 0 where
  pub start : Encodes start_fields (crc, (mark, (version, nothing))) all behind

-- there is no key, or bytes begin with it
abbrev pub HasKey : (key : Option ℤ) (behind from : List ℕ) → Type 0
HasKey None behind from = behind ≡ from
HasKey (Some key) behind from = Encodes key_fields (key, nothing) behind from

-- They begin with a crc, the mark, the version and the key of a head, and more follows.
pub record HasFront (crc : ℤ) (key : Option ℤ) (all from : List ℕ) : Type 0 where
  pub behind : List ℕ
  pub front : HasStart crc MARK (version_of key) all behind
  pub keyed : HasKey key behind from

-- They begin with the front of a head, and so many bytes of fields, and a rest follows.
pub record HasParts (crc : ℤ) (key : Option ℤ) (fields all rest : List ℕ) : Type 0 where
  pub from : List ℕ
  pub front : HasFront crc key all from
  pub sized : Encodes (bytes ⨾ end) (fields, nothing) from rest

-- no fields have these bytes as their encoding
abbrev pub IsNoEncoding : List ℕ → Type 0
IsNoEncoding fields = (v : Value snapshot_fields) → Encodes snapshot_fields v fields [] → ⊥

-- the bytes end within the key
abbrev pub BreaksKey : List ℕ → Type 0
BreaksKey all = (crc : ℤ) × (behind : List ℕ) × HasStart crc MARK VERSION all behind × Breaks key_fields field.ShortBody behind

-- what is wrong with the front
abbrev pub IsFrontFault : SnapshotError → List ℕ → Type 0
IsFrontFault Short all = Breaks start_fields field.ShortBody all ⊎ BreaksKey all
IsFrontFault BadMark all = (crc mark version : ℤ) × (behind : List ℕ) × HasStart crc mark version all behind × (mark ≢ MARK)
IsFrontFault BadVersion all =
    (crc version : ℤ) × (behind : List ℕ) × HasStart crc MARK version all behind × (version ≢ OLD_VERSION) × (version ≢ VERSION)
IsFrontFault _ all = ⊥

-- the front is that of a head, and the fields that should stand behind it have this fault in their size
abbrev pub BreaksBehind : FieldFault → List ℕ → Type 0
BreaksBehind e all = (crc : ℤ) × (key : Option ℤ) × (from : List ℕ) × HasFront crc key all from × Breaks (bytes ⨾ end) e from

-- what that is called
abbrev pub size_error : FieldFault → SnapshotError
size_error field.ShortBody = Short
size_error field.Malformed = BadSize

abbrev pub HeadFault : SnapshotError → List ℕ → Type 0
HeadFault Short all = IsFrontFault Short all ⊎ BreaksBehind field.ShortBody all
HeadFault BadMark all = IsFrontFault BadMark all
HeadFault BadVersion all = IsFrontFault BadVersion all
HeadFault BadSize all = BreaksBehind field.Malformed all
HeadFault BadCrc all =
    (crc : ℤ) × (key : Option ℤ) × (fields rest : List ℕ) × HasParts crc key fields all rest × (crc ≢ signed_crc (covered key fields))
HeadFault BadFields all =
    (key : Option ℤ) × (fields rest : List ℕ) × HasParts (signed_crc (covered key fields)) key fields all rest × IsNoEncoding fields
