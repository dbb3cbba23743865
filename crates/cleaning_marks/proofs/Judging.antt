-- From what is read of bytes to the file that they are, or to their first fault.
use Rattle.std.proofs.Common.{◌≡◌, ℕ, ℤ, List, [], ◌++◌, length, Ok, Err, sym, ap, subst, ◌∙◌, append-nil, inl, inr, to_z, of_z, true, false}
use Rattle.std.specs.Prelude.{◌≢◌, FitsSigned, bit_xor}
use Rattle.std.specs.Int.{w32}
use Rattle.std.proofs.lemmas.Int.{to_z-of_z}
use Rattle.std.specs.List.{fold, list_all}
use Rattle.std.proofs.lemmas.List.{nil_from_length}
use Rattle.std.proofs.lemmas.List.Sums.{fold-append}
use Rattle.checksum.specs.Crc.{all_ones, crc_of, feed_byte, feed_bytes}
use Rattle.frame_fields.specs.declared.error.FieldFault.{FieldFault}
use Rattle.frame_fields.specs.declared.error.FieldFault.TheVariants as field
use Rattle.frame_fields.specs.Fields.{Value, Encodes, Breaks, Fits, encoded}
use Rattle.frame_fields.specs.Reading.{map_read, read_fields, nothing}
use Rattle.frame_fields.proofs.ReaderLaws.{map_read_ok, map_read_err}
use Rattle.frame_fields.proofs.Numbers.{IsBytes, IsBytes-second}
use Rattle.frame_fields.proofs.FieldLaws.{read_encodes, read_breaks, one_value, never_both}
use Rattle.cleaning_marks.specs.declared.layout.TheConstants.{MARK, VERSION}
use Rattle.cleaning_marks.specs.declared.error.MarksError.{MarksError}
use Rattle.cleaning_marks.specs.declared.error.MarksError.TheVariants.{Short, BadMark, BadVersion, BadCrc, BadFields, BadMarks}
use Rattle.cleaning_marks.specs.declared.reading.MarksFile.{MarksFile}
use Rattle.cleaning_marks.specs.Files.{IsMarksFile, covered, file_view, file_with, is_entry, marks_bytes, marks_fields, marks_value, raw_said, raw_view, said_by, signed_crc, start_fields, start_of}
use Rattle.cleaning_marks.specs.Faults.{HasStart, IsNoEncoding, MarksFault, have_marks}
use Rattle.cleaning_marks.proofs.Again.{value_again}

-- ---- the start

abbrev ReadsStart : (crc mark version : ℤ) (all fields : List ℕ) → Type 0
ReadsStart crc mark version all fields = read_fields start_fields all ≡ Ok ((crc, (mark, (version, nothing))), fields)

start_read : (crc mark version : ℤ) (all fields : List ℕ) → IsBytes all → ReadsStart crc mark version all fields → HasStart crc mark version all fields
start_read crc mark version all fields fits read = record { start = read_encodes start_fields (crc, (mark, (version, nothing))) all fields fits read }

never_malformed : (all : List ℕ) → Breaks start_fields field.Malformed all → ⊥
unfolding Breaks
never_malformed all (inl none) = none
never_malformed all (inr (z, tail, fits, parts, inl none)) = none
never_malformed all (inr (z, tail, fits, parts, inr (y, more, fits2, parts2, inl none))) = none
never_malformed all (inr (z, tail, fits, parts, inr (y, more, fits2, parts2, inr (x, last, fits3, parts3, none)))) = none

-- a start that is there is there as a whole
pub start_broken : (e : FieldFault) (all : List ℕ) → IsBytes all → read_fields start_fields all ≡ Err e → MarksFault Short all
start_broken field.ShortBody all fits read = read_breaks start_fields field.ShortBody all fits read
start_broken field.Malformed all fits read = absurd (never_malformed all (read_breaks start_fields field.Malformed all fits read))

-- what stands behind it are bytes
pub start_fits : (crc mark version : ℤ) (all fields : List ℕ) → IsBytes all → HasStart crc mark version all fields → IsBytes fields
start_fits crc mark version all fields fits h = IsBytes-second (encoded start_fields (crc, (mark, (version, nothing)))) fields (subst IsBytes h.start.parts fits)

crc_fits : (crc mark version : ℤ) (all fields : List ℕ) → HasStart crc mark version all fields → FitsSigned w32 crc
unfolding Fits
crc_fits crc mark version all fields h = h.start.fits.0

-- with this program's mark and version
pub start_given : (crc mark version : ℤ) (all fields : List ℕ) → IsBytes all → ReadsStart crc mark version all fields → mark ≡ MARK → version ≡ VERSION
    → HasStart (to_z w32 (of_z w32 crc)) MARK VERSION all fields
start_given crc mark version all fields fits read is_mark is_version =
    let h : HasStart crc MARK VERSION all fields = subst (λ (v : ℤ). HasStart crc MARK v all fields) is_version (subst (λ (m : ℤ). HasStart crc m version all fields) is_mark
    (start_read crc mark version all fields fits read)) in
    subst (λ (z : ℤ). HasStart z MARK VERSION all fields) (sym (to_z-of_z w32 crc (crc_fits crc MARK VERSION all fields h))) h

pub other_mark : (crc mark version : ℤ) (all fields : List ℕ) → IsBytes all → ReadsStart crc mark version all fields → mark ≢ MARK → MarksFault BadMark all
other_mark crc mark version all fields fits read differs = (crc, mark, version, fields, start_read crc mark version all fields fits read, differs)

pub other_version : (crc mark version : ℤ) (all fields : List ℕ) → IsBytes all → ReadsStart crc mark version all fields → mark ≡ MARK → version ≢ VERSION → MarksFault BadVersion all
other_version crc mark version all fields fits read same differs =
    (crc, version, fields, subst (λ (m : ℤ). HasStart crc m version all fields) same (start_read crc mark version all fields fits read), differs)

-- ---- the fields

module _ (file : MarksFile) (all rest : List ℕ) (fits : IsBytes all) (read : map_read raw_said (read_fields marks_fields all) ≡ Ok (raw_view file, rest)) where
  said : (v : Value marks_fields) × (read_fields marks_fields all ≡ Ok (v, rest)) × (raw_said v ≡ raw_view file)
  said = map_read_ok raw_said (read_fields marks_fields all) (raw_view file) rest read

  pub fields_read : length rest ≡ 0 → (v : Value marks_fields) × Encodes marks_fields v all [] × (raw_view file ≡ raw_said v)
  fields_read none = (said.0, subst (Encodes marks_fields said.0 all) (nil_from_length rest none) (read_encodes marks_fields said.0 all rest fits said.1), sym said.2)

  pub more_behind : (length rest ≡ 0 → ⊥) → IsNoEncoding all
  more_behind some = λ v e. some (ap length (sym (one_value marks_fields v said.0 all [] rest e (read_encodes marks_fields said.0 all rest fits said.1)).1))

pub not_read : (e : FieldFault) (all : List ℕ) → IsBytes all → map_read raw_said (read_fields marks_fields all) ≡ Err e → IsNoEncoding all
not_read e all fits read = λ v is. never_both marks_fields v all [] e is (read_breaks marks_fields e all fits (map_read_err raw_said (read_fields marks_fields all) e read))

-- ---- the crc

-- bytes that are fed in parts
pub crc_is : (r : ℕ) (a b c : List ℕ) → r ≡ bit_xor (feed_bytes (feed_bytes (feed_bytes all_ones a) b) c) all_ones → r ≡ crc_of (a ++ (b ++ c))
unfolding crc_of feed_bytes
crc_is r a b c is = is ∙ ap (λ (x : ℕ). bit_xor x all_ones) (sym (fold-append feed_byte all_ones a (b ++ c) ∙ fold-append feed_byte (fold feed_byte all_ones a) b c))

-- ---- the whole

-- the bytes of a file whose crc is right
starts_with : (all fields : List ℕ) → HasStart (signed_crc (covered fields)) MARK VERSION all fields → all ≡ file_with fields
unfolding encoded start_of
starts_with all fields start = start.start.parts

module _ (crc own : ℤ) (all fields : List ℕ) (start : HasStart crc MARK VERSION all fields) (is : own ≡ signed_crc (covered fields)) where
  pub wrong_crc : (own ≡ crc → ⊥) → MarksFault BadCrc all
  wrong_crc differs = (crc, fields, start, λ same. differs (is ∙ sym same))

  pub right_start : own ≡ crc → HasStart (signed_crc (covered fields)) MARK VERSION all fields
  right_start same = subst (λ (z : ℤ). HasStart z MARK VERSION all fields) (sym same ∙ is) start

  pub no_fields : (e : MarksError) → own ≡ crc → (e ≡ BadFields) × IsNoEncoding fields → MarksFault e all
  no_fields e same refused = subst (λ (x : MarksError). MarksFault x all) (sym refused.0) (fields, right_start same, refused.1)

  pub no_marks : (file : MarksFile) → own ≡ crc → (v : Value marks_fields) × Encodes marks_fields v fields [] × (raw_view file ≡ raw_said v)
      → list_all is_entry (raw_view file).entries ≡ false → MarksFault BadMarks all
  no_marks file same read none = (fields, read.0, right_start same, read.1, ap (λ r. list_all is_entry r.entries) (sym read.2) ∙ none)

  pub is_file : (file : MarksFile) → own ≡ crc → (v : Value marks_fields) × Encodes marks_fields v fields [] × (raw_view file ≡ raw_said v)
      → list_all is_entry (raw_view file).entries ≡ true → IsMarksFile (file_view file) all
  is_file file same read some = subst (λ s. IsMarksFile s all) (ap said_by (sym read.2)) (record { fits = subst (Fits marks_fields) (sym again) read.1.fits; parts = parts })
    where
      v : Value marks_fields
      v = read.0

      marks : have_marks v ≡ true
      marks = ap (λ r. list_all is_entry r.entries) (sym read.2) ∙ some

      again : marks_value (said_by (raw_said v)) ≡ v
      again = value_again v read.1.fits marks

      whole : fields ≡ encoded marks_fields v
      whole = read.1.parts ∙ append-nil (encoded marks_fields v)

      parts : all ≡ marks_bytes (said_by (raw_said v))
      parts = starts_with all fields (right_start same) ∙ ap file_with (whole ∙ ap (encoded marks_fields) (sym again))
