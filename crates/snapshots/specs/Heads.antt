-- The head of a snapshot, from its first byte to its last. The form is this project's own; the types of its fields are those
-- of Kafka's documentation, "Protocol Guide", section "Protocol Primitive Types".
use Rattle.std.specs.Prelude.{◌≡◌, ℕ, ℤ, pos, List, [], ◌++◌, length, map, Option, None, Some, IfSome, FitsSigned}
use Rattle.std.specs.Int.{w32, w64, cast_signed}
use Rattle.checksum.specs.Crc.{crc_of}
use Rattle.frame_fields.specs.Fields.{Fields, Value, Fits, FitsLength, end, size16, size32, size64, be, counted, encoded}
use Rattle.frame_fields.specs.Types.{int16, int32, int64, topic, topics_of, TopicOf, ◌⨾◌, topic_request}
use Rattle.frame_fields.specs.Arrays.{values}
use Rattle.snapshots.specs.declared.layout.TheConstants.{MARK, OLD_VERSION, VERSION}
use Rattle.snapshots.specs.declared.head.SnapshotHead.{SnapshotHead}

-- ---- its fields

-- the size of a partition's image
abbrev pub partition_fields : Fields
partition_fields = int64 ⨾ end

-- number, role, first_producer, next_producer, topics
abbrev pub snapshot_fields : Fields
snapshot_fields = int64 ⨾ int16 ⨾ int64 ⨾ int64 ⨾ topics_of partition_fields end

-- what comes first: the crc, the mark, the version
abbrev pub start_fields : Fields
start_fields = int32 ⨾ int32 ⨾ int16 ⨾ end

-- what stands between these and the fields in version 1: the key of the journal of the snapshot's number
abbrev pub key_fields : Fields
key_fields = int64 ⨾ end

-- ---- what it says

pub record SnapshotValue : Type 0 where
  pub number : ℤ
  pub role : ℤ
  pub first_producer : ℤ
  pub next_producer : ℤ
  pub topics : List (TopicOf ℤ)

abbrev pub partition_size : Value partition_fields → ℤ
partition_size p = p.0

-- what the fields' values say, which are nested pairs
abbrev pub snapshot_said : Value snapshot_fields → SnapshotValue
snapshot_said v = record {
  number = v.0;
  role = v.1.0;
  first_producer = v.1.1.0;
  next_producer = v.1.1.1.0;
  topics = map (topic_request partition_fields partition_size) v.1.1.1.1.0;
}

-- the same, apart from where the bytes lie
abbrev pub snapshot_view : SnapshotHead → SnapshotValue
snapshot_view h = record {
  number = h.number;
  role = h.role;
  first_producer = h.first_producer;
  next_producer = h.next_producer;
  topics = map (topic_request partition_fields partition_size) (values (topic partition_fields) h.topics);
}

-- ---- its bytes

-- the version of a head with this key: one without a key is of version 0
abbrev pub version_of : (key : Option ℤ) → ℤ
version_of None = OLD_VERSION
version_of (Some key) = VERSION

-- its bytes
abbrev pub key_bytes : (key : Option ℤ) → List ℕ
key_bytes None = []
key_bytes (Some key) = be size64 key

-- what the crc covers: the mark, the version, the key, and the fields behind their size
abbrev pub covered : (key : Option ℤ) (fields : List ℕ) → List ℕ
covered key fields =
    be size32 MARK ++ (be size16 (version_of key) ++ (key_bytes key ++ counted size32 (length fields) fields))

-- a crc as a signed number
abbrev pub signed_crc : List ℕ → ℤ
signed_crc covered = cast_signed w32 (crc_of covered)

-- what the head of these bytes of fields begins with: the crc, the mark, the version
unfoldable pub start_of : (key : Option ℤ) (fields : List ℕ) → List ℕ
start_of key fields = be size32 (signed_crc (covered key fields)) ++ (be size32 MARK ++ be size16 (version_of key))

-- what stands before them: that, the key, and how many they are
unfoldable pub front_of : (key : Option ℤ) (fields : List ℕ) → List ℕ
front_of key fields =
    be size32 (signed_crc (covered key fields))
    ++ (be size32 MARK ++ (be size16 (version_of key) ++ (key_bytes key ++ be size32 (pos (length fields)))))

abbrev pub head_bytes : (key : Option ℤ) → Value snapshot_fields → List ℕ
head_bytes key v = front_of key (encoded snapshot_fields v) ++ encoded snapshot_fields v

-- Bytes begin with the head that says this and has this key, if its version has one, and a rest follows.
pub record StartsWithHead (s : SnapshotValue) (key : Option ℤ) (bytes rest : List ℕ) : Type 0 where
  pub fields : Value snapshot_fields
  pub fits : Fits snapshot_fields fields
  pub sized : FitsLength size32 (length (encoded snapshot_fields fields))
  pub keyed : IfSome key (FitsSigned w64)
  pub says : s ≡ snapshot_said fields
  pub parts : bytes ≡ head_bytes key fields ++ rest
