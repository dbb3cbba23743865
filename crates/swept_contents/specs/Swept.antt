-- How far a copy of a partition was cleaned, so that a later part of a cleaning need not look at what lies below. Kafka's design
-- documentation, "Log Compaction": a log has a head and a tail, and the tail is clean.
use Rattle.std.specs.Prelude.{◌≡◌, ℕ, ℤ, Bool, false, ◌&&◌, int_lt, int_le, List, Option, Some, None, if◌then◌else◌}
use Rattle.std.specs.List.{filter, fold, list_any}
use Rattle.batch_codec.specs.Values.{BatchValue}
use Rattle.batch_codec.specs.Offsets.{first_offset, last_offset}
use Rattle.content.specs.Records.{LogRecord, log_records, equal_keys, same_key}
use Rattle.content.specs.Content.{Content}
use Rattle.content.specs.Cleaning.{is_cleanable, is_superseded}

-- No record of a batch that begins below `below` is superseded by a record of a batch that lies wholly below `upto`.
abbrev pub IsSwept : (below upto : ℤ) → Content → Type 0
IsSwept below upto c =
    list_any (is_superseded c upto) (log_records (filter (λ b. int_lt (first_offset b) below) c.kept)) ≡ false

-- Below an offset nothing is superseded by what lies wholly below it.
abbrev pub IsSettled : ℤ → Content → Type 0
IsSettled w c = IsSwept w w c

-- whether a batch lies wholly below a bound, and not wholly below an offset
abbrev pub is_dirty : (w upto : ℤ) → BatchValue → Bool
is_dirty w upto b = int_le w (last_offset b) && is_cleanable upto b

-- whether a record of such a batch has the key of this one
abbrev pub has_dirty : (w upto : ℤ) → Content → LogRecord → Bool
has_dirty w upto c x = list_any (λ y. same_key y.1 x.1) (log_records (filter (is_dirty w upto) c.kept))

-- ---- a map of the dirty batches

-- the offset of the latest record of a key in some records
abbrev pub latest_of : Option (List ℕ) → List LogRecord → Option ℤ
latest_of key xs = fold (λ found x. if equal_keys x.1.key key then Some x.0 else found) None xs

-- what a map of the latest offset of each key in the dirty batches has at a key
abbrev pub newest_dirty : (w upto : ℤ) → Content → Option (List ℕ) → Option ℤ
newest_dirty w upto c key = latest_of key (log_records (filter (is_dirty w upto) c.kept))

-- whether it has one behind an offset
abbrev pub is_before : ℤ → Option ℤ → Bool
is_before o None = false
is_before o (Some q) = int_lt o q
