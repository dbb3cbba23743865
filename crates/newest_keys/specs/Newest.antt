-- The offset of the newest record of each key, as records come in any order. Kafka's design documentation, "Log
-- Compaction": a key's latest record is the one that counts, and a cleaner finds it by a map of keys to offsets.
use Rattle.std.specs.Prelude.{ℕ, ℤ, List, map, Option, Some, None, bytes_eq, if◌then◌else◌}
use Rattle.std.specs.Int.{int_max}
use Rattle.std.specs.List.{fold}
use Rattle.batch_codec.specs.Values.{BatchValue}
use Rattle.batch_codec.specs.Offsets.{offset_of}
use Rattle.content.specs.Records.{LogRecord, equal_keys}

-- what there is at each key
abbrev pub Newest : Type 0
Newest = List ℕ → Option ℤ

-- no key has an offset
abbrev pub no_keys : Newest
no_keys key = None

-- the greater of two offsets, if there are two
abbrev pub raised : Option ℤ → ℤ → ℤ
raised None offset = offset
raised (Some there) offset = int_max there offset

-- a key has an offset at least as great as this one
abbrev pub with_key : Newest → List ℕ → ℤ → Newest
with_key newest key offset k = if bytes_eq key k then Some (raised (newest k) offset) else newest k

-- each record's key has an offset at least as great as the record's
abbrev pub with_records : Newest → List LogRecord → Newest
with_records newest xs key =
    fold (λ found x. if equal_keys x.1.key (Some key) then Some (raised found x.0) else found) (newest key) xs

-- the records of a batch, each with its offset
abbrev pub records_of : BatchValue → List LogRecord
records_of b = map (λ r. (offset_of b r, r)) b.recs
