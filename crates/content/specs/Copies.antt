-- When a content is a copy of a log: of what it has seen, it has the latest record of each key, and
-- the newest batches of each producer. Kafka's design documentation, "Log Compaction" and
-- "Replication".
use Rattle.std.specs.Prelude.{◌≡◌, ◌⊎◌, ℤ, pos, ◌≤ℤ◌, true, false, IsSome, Some, None, List}
use Rattle.batch_codec.specs.Values.{RecordValue, BatchValue}
use Rattle.batch_codec.specs.Offsets.{first_offset, last_offset}
use Rattle.cover_ranges.specs.Runs.{covers, CoversAll}
use Rattle.content.specs.ByOffset.{look_up}
use Rattle.content.specs.Records.{record_at, same_key}
use Rattle.content.specs.Windows.{is_in_window}
use Rattle.content.specs.Content.{Content}
use Rattle.content.specs.Logs.{IsBoundary, is_inside, heads_inside, IsLatest}

-- A tombstone that may be gone: every offset from the start to it was seen, and no record of its key
-- is held.
abbrev pub IsDeadTombstone : Content → ℤ → RecordValue → Type 0
IsDeadTombstone c o r =
    (r.value ≡ None)
    × CoversAll c.cover c.start o
    × ((q : ℤ) (s : RecordValue) → record_at c.kept q ≡ Some s → same_key s r ≡ false)

-- the log's batch that has the offset o: it begins at the start or later, and all of it was seen
pub record IsSeenBatch (c : Content) (log : List BatchValue) (o : ℤ) : Type 0 where
  pub batch : BatchValue
  pub of_log : look_up first_offset (first_offset batch) log ≡ Some batch
  pub from_start : c.start ≤ℤ first_offset batch
  pub has_offset : (first_offset batch ≤ℤ o) × (o ≤ℤ last_offset batch)
  pub all_seen : is_inside c.cover batch ≡ true

pub record IsCopy (c : Content) (log : List BatchValue) : Type 0 where
  -- it starts where the log may start
  pub boundary : IsBoundary log c.start
  -- it has seen only whole batches of the log
  pub seen_batches : (o : ℤ) → covers c.cover o ≡ true → IsSeenBatch c log o
  -- each batch that it keeps has the head of the log's batch at that base offset
  pub heads : (base : ℤ) (b : BatchValue) → look_up first_offset base c.kept ≡ Some b →
      (y : BatchValue) × (look_up first_offset base log ≡ Some y) × (y.head ≡ b.head)
  -- each record that it holds is the log's at that offset
  pub records : (o : ℤ) (r : RecordValue) → record_at c.kept o ≡ Some r → record_at log o ≡ Some r
  -- it holds the latest record of each key that it has seen, unless that is a dead tombstone
  pub latest : (o : ℤ) (r : RecordValue) → record_at log o ≡ Some r → covers c.cover o ≡ true →
      IsLatest log c.cover o r → (record_at c.kept o ≡ Some r) ⊎ IsDeadTombstone c o r
  -- it keeps the newest batches of each producer that it has seen
  pub window : (base : ℤ) (y : BatchValue) → look_up first_offset base log ≡ Some y →
      is_inside c.cover y ≡ true → pos 0 ≤ℤ y.head.producer →
      is_in_window (heads_inside c.cover log) y.head ≡ true →
      IsSome (look_up first_offset base c.kept)
