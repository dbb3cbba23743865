-- Why bytes are no file of marks: the first of these that holds.
use Rattle.std.specs.Prelude.{◌≡◌, ◌≢◌, ℕ, ℤ, List, [], Bool, false}
use Rattle.std.specs.List.{list_all}
use Rattle.frame_fields.specs.declared.error.FieldFault.TheVariants as field
use Rattle.frame_fields.specs.Fields.{Value, Encodes, Breaks}
use Rattle.frame_fields.specs.Reading.{nothing}
use Rattle.cleaning_marks.specs.declared.layout.TheConstants.{MARK, VERSION}
use Rattle.cleaning_marks.specs.declared.error.MarksError.{MarksError}
use Rattle.cleaning_marks.specs.declared.error.MarksError.TheVariants.{Short, BadMark, BadVersion, BadCrc, BadFields, BadMarks}
use Rattle.cleaning_marks.specs.Files.{covered, entries_in, is_entry, marks_fields, signed_crc, start_fields}

-- Bytes begin with a crc, a mark and a version, and the fields follow.
pub record HasStart (crc mark version : ℤ) (all fields : List ℕ) : Type 0 where
  pub start : Encodes start_fields (crc, (mark, (version, nothing))) all fields

-- no fields have these bytes as their encoding
abbrev pub IsNoEncoding : List ℕ → Type 0
IsNoEncoding fields = (v : Value marks_fields) → Encodes marks_fields v fields [] → ⊥

-- whether each partition has the numbers of marks
abbrev pub have_marks : Value marks_fields → Bool
have_marks v = list_all is_entry (entries_in v)

abbrev pub MarksFault : MarksError → List ℕ → Type 0
MarksFault Short all = Breaks start_fields field.ShortBody all
MarksFault BadMark all = (crc mark version : ℤ) × (fields : List ℕ) × HasStart crc mark version all fields × (mark ≢ MARK)
MarksFault BadVersion all = (crc version : ℤ) × (fields : List ℕ) × HasStart crc MARK version all fields × (version ≢ VERSION)
MarksFault BadCrc all =
    (crc : ℤ) × (fields : List ℕ) × HasStart crc MARK VERSION all fields × (crc ≢ signed_crc (covered fields))
MarksFault BadFields all =
    (fields : List ℕ) × HasStart (signed_crc (covered fields)) MARK VERSION all fields × IsNoEncoding fields
MarksFault BadMarks all =
    (fields : List ℕ) × (v : Value marks_fields) × HasStart (signed_crc (covered fields)) MARK VERSION all fields
    × Encodes marks_fields v fields [] × (have_marks v ≡ false)
