-- When two copies agree on a batch.
use Rattle.std.specs.Prelude.{◌≡◌, ℤ, ◌≤ℤ◌, Option, Some}
use Rattle.batch_codec.specs.Values.{RecordValue, BatchValue}
use Rattle.batch_codec.specs.Offsets.{first_offset, last_offset}
use Rattle.cover_ranges.specs.Runs.{Runs, covers}
use Rattle.content.specs.Records.{record_at_delta}

-- a record equals the other, where there is one
abbrev pub IsAlikeOrNone : RecordValue → Option RecordValue → Type 0
IsAlikeOrNone r other = (s : RecordValue) → other ≡ Some s → r ≡ s

-- two batches have the same head, and the same record at each delta at which both have one
abbrev pub AreAlike : BatchValue → BatchValue → Type 0
AreAlike x y = (x.head ≡ y.head)
    × ((d : ℤ) (r s : RecordValue) → record_at_delta d x ≡ Some r → record_at_delta d y ≡ Some s
    → r ≡ s)

-- all of a batch's span is covered, or none of it
abbrev pub CoversAllOrNone : Runs → BatchValue → Type 0
CoversAllOrNone runs x = (o : ℤ) → first_offset x ≤ℤ o → o ≤ℤ last_offset x
    → covers runs o ≡ covers runs (first_offset x)
