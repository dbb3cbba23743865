-- What a copy tells another one that has some offsets already, by this project's own rule.
use Rattle.std.specs.Prelude.{◌≡◌, ◌^◌, ℤ, pos, ◌≤ℤ◌, int_le, Bool, true, ◌&&◌, List, map, if◌then◌else◌}
use Rattle.std.specs.List.{list_any}
use Rattle.batch_codec.specs.Values.{BatchValue}
use Rattle.batch_codec.specs.Offsets.{first_offset, last_offset, offset_of}
use Rattle.cover_ranges.specs.Runs.{Runs, covers, IsCanonical}
use Rattle.content.specs.Content.{Content}
use Rattle.deltas.specs.declared.TheConstants.{LEAST_BASE}
use Rattle.deltas.specs.Entries.{Entry, AreEntries}
use Rattle.deltas.specs.Entries.Entry.{Listed, Sent}

-- `start` and `cover` are the sender's log start and the offsets that it has seen. `asked` are the
-- offsets that the receiver said it has. `entries` tell of the batches that the sender keeps, by base.
pub record Delta : Type 0 where
  pub start : ℤ
  pub cover : Runs
  pub asked : Runs
  pub entries : List Entry

-- a valid delta
pub record IsDelta (e : Delta) : Type 0 where
  pub in_range : (pos 0 ≤ℤ e.start) × (e.start ≤ℤ pos (2 ^ 62))
  pub canonical : IsCanonical e.cover
  -- only offsets from the start on were seen
  pub above : (o : ℤ) → covers e.cover o ≡ true → e.start ≤ℤ o
  -- these may lie below the start
  pub asked : IsCanonical e.asked
  pub entries : AreEntries e.cover e.asked LEAST_BASE e.entries

-- ---- the delta of a copy

-- the offsets of a batch's records
abbrev pub offsets_of : BatchValue → List ℤ
offsets_of b = map (offset_of b) b.recs

-- whether some offset from `first` to `last` is covered
abbrev pub covers_any : Runs → ℤ → ℤ → Bool
covers_any runs first last = list_any (λ run. int_le run.0 last && int_le first run.1) runs

-- whether some offset of the batch's span was asked
abbrev pub is_asked : Runs → BatchValue → Bool
is_asked asked b = covers_any asked (first_offset b) (last_offset b)

abbrev pub entry_for : Runs → BatchValue → Entry
entry_for asked b = if is_asked asked b then Listed (first_offset b) (offsets_of b) else Sent b

abbrev pub delta_of : Content → Runs → Delta
delta_of c asked = record {
  start = c.start;
  cover = c.cover;
  asked = asked;
  entries = map (entry_for asked) c.kept;
}
