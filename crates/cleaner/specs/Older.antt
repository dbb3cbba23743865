-- Tombstones of a part that could go, and records of their keys before the part. Words of private clauses.
use Rattle.std.specs.Prelude.{◌≡◌, ◌⊎◌, ◌≤ℤ◌, ℕ, ℤ, Bool, true, false, ◌&&◌, not, is_none, int_lt, List, Some}
use Rattle.std.specs.List.{filter, list_any}
use Rattle.batch_codec.specs.Values.{BatchValue}
use Rattle.batch_codec.specs.Offsets.{first_offset}
use Rattle.content.specs.Cleaning.{is_cleanable}
use Rattle.content.specs.Records.{LogRecord, equal_keys}
use Rattle.cleaner.specs.Latest.{Offsets}
use Rattle.cleaner.specs.Choice.{Test, has_key_of, records_of, latest_in}
use Rattle.std.specs.Prelude.{is_some}

-- whether a batch begins below an offset
abbrev pub begins_below : ℤ → BatchValue → Bool
begins_below from b = int_lt (first_offset b) from

-- it begins at an offset or behind it, or doesn't lie wholly below the bound
abbrev pub IsClear : (to upto : ℤ) → BatchValue → Type 0
IsClear to upto b = (to ≤ℤ first_offset b) ⊎ (is_cleanable upto b ≡ false)

-- whether a record is a tombstone below the bound, and the latest of its key
abbrev pub may_expire : Test → ℤ → LogRecord → Bool
may_expire outdated bound x = is_none x.1.value && (int_lt x.0 bound && not (outdated x))

-- those of a batch
abbrev pub expiring_of : Test → ℤ → BatchValue → List LogRecord
expiring_of outdated bound b = filter (may_expire outdated bound) (records_of b)

-- the records of a batch whose key a map has
abbrev pub known_of : {S : Type 0} → Offsets S → BatchValue → List LogRecord
known_of m b = filter (has_key_of m) (records_of b)

-- of each key that such a tombstone of a part has, whether one of the records before has it
pub record KnowsOlder {S : Type 0} (outdated : Test) (older : Offsets S) (bound : ℤ) (part before : List LogRecord) : Type 0 where
  pub tells : (k : List ℕ) → list_any (λ x. may_expire outdated bound x && equal_keys x.1.key (Some k)) part ≡ true
      → is_some (latest_in older (Some k)) ≡ list_any (λ y. equal_keys y.1.key (Some k)) before
