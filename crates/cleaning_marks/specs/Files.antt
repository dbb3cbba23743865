-- The file in which a broker keeps the marks of its own cleanings over restarts, from its first byte to its last. The form is
-- this project's own; the types of its fields are those of Kafka's documentation, "Protocol Guide", section "Protocol Primitive
-- Types". What marks are is said beside the policy.
use Rattle.std.specs.Prelude.{◌≡◌, ℕ, ℤ, pos, ◌^◌, ◌<◌, ◌&&◌, ◌||◌, List, ◌++◌, map, Bool, Option, Some, None, IfSome, if◌then◌else◌}
use Rattle.std.specs.Int.{w32, w64, cast_signed, cast_unsigned}
use Rattle.std.specs.List.{AllByRecursion}
use Rattle.std.specs.Ordering.{int_eq}
use Rattle.checksum.specs.Crc.{crc_of}
use Rattle.frame_fields.specs.Fields.{Fields, Value, Fits, array, end, size16, size32, be, encoded}
use Rattle.frame_fields.specs.Types.{int8, int16, int32, int64, string, ◌⨾◌}
use Rattle.frame_fields.specs.Reading.{nothing}
use Rattle.frame_fields.specs.Arrays.{values}
use Rattle.cleaning_policy.specs.declared.values.Mark.{Mark}
use Rattle.cleaning_policy.specs.declared.values.Marks.{Marks}
use Rattle.cleaning_marks.specs.declared.layout.TheConstants.{MARK, VERSION}
use Rattle.cleaning_marks.specs.declared.numbers.MarkNumbers.{MarkNumbers}
use Rattle.cleaning_marks.specs.declared.numbers.OneMark.{OneMark}
use Rattle.cleaning_marks.specs.declared.place.JournalPlace.{JournalPlace}
use Rattle.cleaning_marks.specs.declared.reading.MarksFile.{MarksFile}
use Rattle.cleaning_marks.specs.declared.writing.PartitionMarks.{PartitionMarks}

-- ---- its fields

-- Of a partition: its topic's name and its number; of the older mark whether it is there, up to where its pass cleaned and when it
-- ended; the same of the newest one; below what deletions were taken, up to where the last pass cleaned, when it began, the bytes
-- that it left.
abbrev pub entry_fields : Fields
entry_fields =
    string ⨾ int32 ⨾ int8 ⨾ int64 ⨾ int64 ⨾ int8 ⨾ int64 ⨾ int64 ⨾ int64 ⨾ int64 ⨾ int64 ⨾ int64 ⨾ end

-- the journal's number, its key, its size, where the group below begins, that one's crc; the partitions
abbrev pub marks_fields : Fields
marks_fields = int64 ⨾ int64 ⨾ int64 ⨾ int64 ⨾ int32 ⨾ array entry_fields end

-- what comes first: the crc, the mark, the version
abbrev pub start_fields : Fields
start_fields = int32 ⨾ int32 ⨾ int16 ⨾ end

-- ---- what it says

-- what it keeps of a partition
pub record KeptMarks : Type 0 where
  pub topic : List ℕ
  pub partition : ℤ
  pub marks : Marks

pub record MarksSaid : Type 0 where
  pub place : JournalPlace
  pub partitions : List KeptMarks

-- a number of 64 bits without a sign, as the INT64 of the same bits
abbrev pub as_int64 : ℕ → ℤ
as_int64 n = cast_signed w64 n

-- and back
abbrev pub from_int64 : ℤ → ℕ
from_int64 z = cast_unsigned w64 z

-- the numbers of a mark: zeros where there is none
abbrev pub mark_numbers : Option Mark → OneMark
mark_numbers None = record { there = pos 0; upto = pos 0; ended = pos 0 }
mark_numbers (Some m) = record { there = pos 1; upto = m.upto; ended = as_int64 m.ended }

abbrev pub numbers_of : Marks → MarkNumbers
numbers_of m = record {
  older = mark_numbers m.older;
  newest = mark_numbers m.newest;
  used = m.used;
  reached = m.reached;
  began = as_int64 m.began;
  size = as_int64 m.size;
}

-- the values of a partition's fields
abbrev pub entry_with : (topic : List ℕ) (partition : ℤ) → MarkNumbers → Value entry_fields
entry_with topic partition n = (
  topic,
  (
    partition,
    (
      n.older.there,
      (
        n.older.upto,
        (
          n.older.ended,
          (
            n.newest.there,
            (
              n.newest.upto,
              (
                n.newest.ended,
                (n.used, (n.reached, (n.began, (n.size, nothing)))),
              ),
            ),
          ),
        ),
      ),
    ),
  ),
)

abbrev pub entry_value : KeptMarks → Value entry_fields
entry_value k = entry_with k.topic k.partition (numbers_of k.marks)

-- those of all fields
abbrev pub marks_value : MarksSaid → Value marks_fields
marks_value s = (
  as_int64 s.place.number,
  (
    s.place.key,
    (
      as_int64 s.place.size,
      (
        as_int64 s.place.group_at,
        (cast_signed w32 s.place.group_crc, (map entry_value s.partitions, nothing)),
      ),
    ),
  ),
)

-- ---- its bytes

-- what the crc covers: the mark, the version and the fields
abbrev pub covered : (fields : List ℕ) → List ℕ
covered fields = be size32 MARK ++ (be size16 VERSION ++ fields)

-- a crc as a signed number
abbrev pub signed_crc : List ℕ → ℤ
signed_crc covered = cast_signed w32 (crc_of covered)

-- what stands before these bytes of fields
unfoldable pub start_of : (fields : List ℕ) → List ℕ
start_of fields = be size32 (signed_crc (covered fields)) ++ (be size32 MARK ++ be size16 VERSION)

-- the file that has these bytes of fields
abbrev pub file_with : (fields : List ℕ) → List ℕ
file_with fields = start_of fields ++ fields

-- the file that says this
abbrev pub marks_bytes : MarksSaid → List ℕ
marks_bytes s = file_with (encoded marks_fields (marks_value s))

-- Bytes are the file that says this.
pub record IsMarksFile (s : MarksSaid) (bytes : List ℕ) : Type 0 where
  pub fits : Fits marks_fields (marks_value s)
  pub parts : bytes ≡ marks_bytes s

-- ---- which numbers it may have: those of its types

abbrev pub IsUint64 : ℕ → Type 0
IsUint64 n = n < 2 ^ 64

pub record HasMarkNumbers (m : Marks) : Type 0 where
  pub older : IfSome m.older (λ one. IsUint64 one.ended)
  pub newest : IfSome m.newest (λ one. IsUint64 one.ended)
  pub began : IsUint64 m.began
  pub size : IsUint64 m.size

pub record HasNumbers (s : MarksSaid) : Type 0 where
  pub number : IsUint64 s.place.number
  pub size : IsUint64 s.place.size
  pub group_at : IsUint64 s.place.group_at
  pub group_crc : s.place.group_crc < 2 ^ 32
  pub partitions : AllByRecursion (λ k. HasMarkNumbers k.marks) s.partitions

-- ---- what is read and written, apart from where bytes lie

-- what the numbers of a mark say
abbrev pub mark_in : OneMark → Option Mark
mark_in r = if int_eq r.there (pos 1) then Some (record { upto = r.upto; ended = from_int64 r.ended }) else None

-- whether they are those of a mark, or of none
abbrev pub is_mark : OneMark → Bool
is_mark r =
    int_eq r.there (pos 1) || (int_eq r.there (pos 0) && (int_eq r.upto (pos 0) && int_eq r.ended (pos 0)))

abbrev pub marks_in : MarkNumbers → Marks
marks_in n = record {
  older = mark_in n.older;
  newest = mark_in n.newest;
  used = n.used;
  reached = n.reached;
  began = from_int64 n.began;
  size = from_int64 n.size;
}

-- the numbers that the values of a partition's fields are
abbrev pub numbers_in : Value entry_fields → MarkNumbers
numbers_in v = record {
  older = record { there = v.1.1.0; upto = v.1.1.1.0; ended = v.1.1.1.1.0 };
  newest = record { there = v.1.1.1.1.1.0; upto = v.1.1.1.1.1.1.0; ended = v.1.1.1.1.1.1.1.0 };
  used = v.1.1.1.1.1.1.1.1.0;
  reached = v.1.1.1.1.1.1.1.1.1.0;
  began = v.1.1.1.1.1.1.1.1.1.1.0;
  size = v.1.1.1.1.1.1.1.1.1.1.1.0;
}

abbrev pub kept_in : Value entry_fields → KeptMarks
kept_in v = record { topic = v.0; partition = v.1.0; marks = marks_in (numbers_in v) }

-- whether the values of a partition's fields are those of marks
abbrev pub is_entry : Value entry_fields → Bool
is_entry v = is_mark (numbers_in v).older && is_mark (numbers_in v).newest

-- The place that a file has, and the values of its partitions' fields.
pub record RawSaid : Type 0 where
  pub place : JournalPlace
  pub entries : List (Value entry_fields)

abbrev pub place_in : Value marks_fields → JournalPlace
place_in v = record {
  number = from_int64 v.0;
  key = v.1.0;
  size = from_int64 v.1.1.0;
  group_at = from_int64 v.1.1.1.0;
  group_crc = cast_unsigned w32 v.1.1.1.1.0;
}

abbrev pub entries_in : Value marks_fields → List (Value entry_fields)
entries_in v = v.1.1.1.1.1.0

abbrev pub raw_said : Value marks_fields → RawSaid
raw_said v = record { place = place_in v; entries = entries_in v }

-- the same of a file that was read, apart from where bytes lie
abbrev pub raw_view : MarksFile → RawSaid
raw_view f = record { place = f.place; entries = values entry_fields f.partitions }

-- what these say
abbrev pub said_by : RawSaid → MarksSaid
said_by r = record { place = r.place; partitions = map kept_in r.entries }

abbrev pub file_view : MarksFile → MarksSaid
file_view f = said_by (raw_view f)

-- what is to be written of a partition
abbrev pub kept_of : PartitionMarks → KeptMarks
kept_of p = record { topic = p.topic.now; partition = p.partition; marks = p.marks }

-- the values of its fields
unfoldable pub part_value : PartitionMarks → Value entry_fields
part_value p = entry_value (kept_of p)
