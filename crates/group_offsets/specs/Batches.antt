-- The batches that commit an offset, and that forget some. Kafka's documentation, section "Consumer Offset Tracking",
-- and "Log Compaction": a record with a null value deletes its key. That they have no time is this project's own.
use Rattle.std.specs.Prelude.{ℕ, suc, ℤ, pos, negsuc, ◌-ℤ◌, List, [], ◌∷◌, length, Option, Some, None}
use Rattle.batch_codec.specs.declared.head.BatchHead.{BatchHead}
use Rattle.batch_codec.specs.Values.{RecordValue, BatchValue}
use Rattle.group_offsets.specs.Keys.{GroupKeyValue, group_key_bytes}
use Rattle.group_offsets.specs.CommittedValues.{CommittedValue, committed_bytes}

-- no attributes, no times and no producer
abbrev pub offsets_head : (last_delta : ℤ) → BatchHead
offsets_head last_delta = record {
  base = pos 0;
  leader_epoch = pos 0;
  attrs = pos 0;
  last_delta = last_delta;
  base_time = negsuc 0;
  max_time = negsuc 0;
  producer = negsuc 0;
  producer_epoch = negsuc 0;
  base_seq = negsuc 0;
}

abbrev pub offsets_record : (delta : ℤ) → List ℕ → Option (List ℕ) → RecordValue
offsets_record delta key value = record {
  attrs = pos 0;
  time_delta = pos 0;
  delta = delta;
  key = Some key;
  value = value;
  headers = [];
}

-- one record: the key and the value
unfoldable pub commit_batch : GroupKeyValue → CommittedValue → BatchValue
commit_batch k v = record {
  head = offsets_head (pos 0);
  recs = offsets_record (pos 0) (group_key_bytes k) (Some (committed_bytes v)) ∷ [];
}

-- a null record for each key, the first at an offset delta, the others behind it
unfoldable pub null_records : ℕ → List (List ℕ) → List RecordValue
null_records delta [] = []
null_records delta (key ∷ keys) = offsets_record (pos delta) key None ∷ null_records (suc delta) keys

unfoldable pub forget_batch : List (List ℕ) → BatchValue
forget_batch keys = record {
  head = offsets_head (pos (length keys) -ℤ pos 1);
  recs = null_records 0 keys;
}
