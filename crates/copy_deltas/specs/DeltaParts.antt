-- Words of private clauses: the parts of a delta, as they stand in its bytes.
use Rattle.std.specs.Prelude.{◌≡◌, ℤ, ◌≤ℤ◌}
use Rattle.cover_ranges.specs.Runs.{Runs, covers, IsCanonical}
use Rattle.copy_images.specs.Judging.{ranges_of}
use Rattle.deltas.specs.Deltas.{Delta, IsDelta}
use Rattle.delta_bytes.specs.declared.delta.DeltaBytes.{DeltaBytes}
use Rattle.delta_bytes.specs.Deltas.{entries_encoding}

-- these are the parts of a valid delta
pub record AreParts (parts : DeltaBytes) (e : Delta) : Type 0 where
  pub valid : IsDelta e
  pub start_is : parts.start ≡ e.start
  pub cover_is : ranges_of parts.ranges.now ≡ e.cover
  pub asked_is : ranges_of parts.asked.now ≡ e.asked
  pub entries_are : parts.entries.now ≡ entries_encoding e.entries

-- from an offset on, the runs that are left cover what all cover
pub record AreFrom (low : ℤ) (runs left : Runs) : Type 0 where
  pub canonical : IsCanonical left
  pub same : (o : ℤ) → low ≤ℤ o → covers runs o ≡ covers left o
