-- The keys of committed offsets, one for each partition that a group consumes. Kafka's documentation, section
-- "Consumer Offset Tracking"; the fields are those of Kafka's key of version 1, `OffsetCommitKey`.
use Rattle.std.specs.Prelude.{ℕ, ◌≤◌, ℤ, List, Option, Some, None, FitsSigned, length, if◌then◌else◌}
use Rattle.std.specs.Int.{w32}
use Rattle.std.specs.Option.{option_and_then}
use Rattle.std.specs.Ordering.{int_eq}
use Rattle.frame_fields.specs.Fields.{Fields, end, Value, encoded}
use Rattle.frame_fields.specs.Reading.{read_fields}
use Rattle.frame_fields.specs.Types.{int16, int32, string, ◌⨾◌}
use Rattle.group_offsets.specs.declared.layout.TheConstants.{KEY_VERSION, MAX_NAME_BYTES}
use Rattle.group_offsets.specs.declared.keys.GroupKey.{GroupKey}
use Rattle.group_offsets.specs.WholeFields.{all_of}

pub record GroupKeyValue : Type 0 where
  pub group : List ℕ
  pub topic : List ℕ
  pub partition : ℤ

-- the version, the group, the topic, the partition
abbrev pub group_key_fields : Fields
group_key_fields = int16 ⨾ string ⨾ string ⨾ int32 ⨾ end

abbrev pub group_key_fields_value : GroupKeyValue → Value group_key_fields
group_key_fields_value k = (KEY_VERSION, (k.group, (k.topic, (k.partition, tt))))

-- a key as bytes
abbrev pub group_key_bytes : GroupKeyValue → List ℕ
group_key_bytes k = encoded group_key_fields (group_key_fields_value k)

-- a text that a STRING can hold
abbrev pub IsName : List ℕ → Type 0
IsName text = length text ≤ MAX_NAME_BYTES

-- a key that has an encoding
pub record GroupKeyFits (k : GroupKeyValue) : Type 0 where
  pub group : IsName k.group
  pub topic : IsName k.topic
  pub partition : FitsSigned w32 k.partition

-- what the fields say, where their version is that of a key
abbrev pub group_key_said : Value group_key_fields → Option GroupKeyValue
group_key_said v =
    if int_eq v.0 KEY_VERSION
    then Some (record { group = v.1.0; topic = v.1.1.0; partition = v.1.1.1.0 }) else None

-- the key that all of the bytes are, if they are one
unfoldable pub group_key_at : List ℕ → Option GroupKeyValue
group_key_at bytes = option_and_then group_key_said (all_of (read_fields group_key_fields bytes))

-- what a borrowed key says, apart from where its bytes lie
abbrev pub key_value : GroupKey → GroupKeyValue
key_value k = record { group = k.group.now; topic = k.topic.now; partition = k.partition }
