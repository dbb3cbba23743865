-- Offsets up to which a copy of a partition may be cleaned with no batch in two, and offsets below which its deletions may go.
-- Kafka's documentation, "Design", section "Log Compaction": "The point in time at which deletes are no longer retained is
-- marked as the 'delete retention point'". That batches are cleaned whole is this project's own.
use Rattle.std.specs.Prelude.{ℤ, pos, ◌+ℤ◌, ◌≤ℤ◌, int_lt, List, [], ◌∷◌, Option, Some, None, if◌then◌else◌}
use Rattle.std.specs.Int.{int_min}
use Rattle.std.specs.List.{find}
use Rattle.batch_codec.specs.Values.{BatchValue}
use Rattle.batch_codec.specs.Offsets.{first_offset, last_offset}
use Rattle.cover_ranges.specs.Runs.{is_within}
use Rattle.content.specs.Content.{Content, end}
use Rattle.content.specs.Parts.{NoneIsAcross}

-- an offset between a copy's batches, at most the copy's end
pub record IsBetweenBatches (c : Content) (o : ℤ) : Type 0 where
  pub to_end : o ≤ℤ end c
  pub none_across : NoneIsAcross o c.kept

-- the least of an offset and the first offset of the first batch that doesn't lie below it
abbrev pub before_across : ℤ → List BatchValue → ℤ
before_across o [] = o
before_across o (b ∷ bs) = if int_lt (last_offset b) o then before_across o bs else int_min o (first_offset b)

-- the last offset between batches up to one: a cleaning up to that one cleans up to there
abbrev pub place_below : ℤ → Content → ℤ
place_below o c = int_min (end c) (before_across o c.kept)

-- the offset behind a run; the start where there is none
abbrev pub behind_run : (start : ℤ) → Option (ℤ × ℤ) → ℤ
behind_run start None = start
behind_run start (Some run) = run.1 +ℤ pos 1

-- the first offset, from the start on, that the copy hasn't seen: deletions behind it stay
abbrev pub first_unseen : Content → ℤ
first_unseen c = behind_run c.start (find (is_within c.start) c.cover)
