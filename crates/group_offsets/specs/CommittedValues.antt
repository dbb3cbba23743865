-- The values of committed offsets. Kafka's documentation, section "Consumer Offset Tracking"; the fields are the
-- version, the offset and the metadata of Kafka's value, `OffsetCommitValue`, and no time.
use Rattle.std.specs.Prelude.{ℕ, ℤ, List, Option, Some, None, FitsSigned, if◌then◌else◌}
use Rattle.std.specs.Int.{w64}
use Rattle.std.specs.Option.{option_and_then, option_map}
use Rattle.std.specs.Ordering.{int_eq}
use Rattle.std.specs.Borrow.{Bor}
use Rattle.frame_fields.specs.Fields.{Fields, end, Value, encoded}
use Rattle.frame_fields.specs.Reading.{read_fields}
use Rattle.frame_fields.specs.Types.{int16, int64, nullable_string, ◌⨾◌}
use Rattle.group_offsets.specs.declared.layout.TheConstants.{VALUE_VERSION}
use Rattle.group_offsets.specs.declared.values.Committed.{Committed}
use Rattle.group_offsets.specs.Keys.{IsName}
use Rattle.group_offsets.specs.WholeFields.{all_of}

-- Metadata of `None` is null.
pub record CommittedValue : Type 0 where
  pub offset : ℤ
  pub metadata : Option (List ℕ)

-- the version, the offset, the metadata
abbrev pub committed_fields : Fields
committed_fields = int16 ⨾ int64 ⨾ nullable_string ⨾ end

abbrev pub committed_fields_value : CommittedValue → Value committed_fields
committed_fields_value v = (VALUE_VERSION, (v.offset, (v.metadata, tt)))

-- a value as bytes
abbrev pub committed_bytes : CommittedValue → List ℕ
committed_bytes v = encoded committed_fields (committed_fields_value v)

-- metadata that a NULLABLE_STRING can hold
abbrev pub IsMetadata : Option (List ℕ) → Type 0
IsMetadata None = Unit {0}
IsMetadata (Some text) = IsName text

-- a value that has an encoding
pub record CommittedFits (v : CommittedValue) : Type 0 where
  pub offset : FitsSigned w64 v.offset
  pub metadata : IsMetadata v.metadata

-- what the fields say, where their version is that of a value
abbrev pub committed_said : Value committed_fields → Option CommittedValue
committed_said v =
    if int_eq v.0 VALUE_VERSION then Some (record { offset = v.1.0; metadata = v.1.1.0 }) else None

-- the value that all of the bytes are, if they are one
unfoldable pub committed_at : List ℕ → Option CommittedValue
committed_at bytes = option_and_then committed_said (all_of (read_fields committed_fields bytes))

-- bytes or null, apart from where the bytes lie
abbrev pub text_of : Option (Bor (List ℕ)) → Option (List ℕ)
text_of text = option_map (λ t. t.now) text

-- what a borrowed value says, likewise
abbrev pub committed_value : Committed → CommittedValue
committed_value v = record { offset = v.offset; metadata = text_of v.metadata }
