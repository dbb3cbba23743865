-- The records of one key in a copy of a partition. Kafka's documentation, "Design", section "Log Compaction": "a message with a key
-- and a null payload will be treated as a delete from the log".
use Rattle.std.specs.Prelude.{ℕ, Bool, is_none, List, map, reverse, Option}
use Rattle.std.specs.List.{filter}
use Rattle.batch_codec.specs.Values.{BatchValue}
use Rattle.content.specs.Records.{LogRecord, log_records, equal_keys}
use Rattle.content.specs.Content.{Content}
use Rattle.cleaning_policy.specs.Readers.{KeyRecord}

-- whether a record has the key
abbrev pub has_key : Option (List ℕ) → LogRecord → Bool
has_key key x = equal_keys x.1.key key

-- a record, of which only its offset counts, and whether it is a deletion
abbrev pub key_record : LogRecord → KeyRecord
key_record x = record { offset = x.0; is_deletion = is_none x.1.value }

-- the records of the key in some batches, the latest first
abbrev pub records_in : Option (List ℕ) → List BatchValue → List KeyRecord
records_in key bs = reverse (map key_record (filter (has_key key) (log_records bs)))

-- those that a copy holds
abbrev pub records_of : Option (List ℕ) → Content → List KeyRecord
records_of key c = records_in key c.kept
