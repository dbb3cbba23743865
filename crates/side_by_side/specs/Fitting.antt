-- Words of private clauses: what a copy asks of each step before it takes what it is told.
use Rattle.std.specs.Prelude.{◌≡◌, ℤ, ◌≤ℤ◌, ◌<ℤ◌, true}
use Rattle.batch_codec.specs.Offsets.{last_offset}
use Rattle.cover_ranges.specs.Runs.{Runs, covers}
use Rattle.side_by_side.specs.Agreement.{AreAlike, CoversAllOrNone}
use Rattle.deltas.specs.Entries.{last_listed, entry_last}
use Rattle.deltas.specs.Entries.Entry.{Listed, Sent}
use Rattle.side_by_side.specs.Steps.{Step, base_of}
use Rattle.side_by_side.specs.Steps.Step.{Done, Kept, Told, Both}

-- what comes next ends below an offset
abbrev pub EndsBelow : ℤ → Step → Type 0
EndsBelow o Done = Unit {0}
EndsBelow o (Kept x) = last_offset x <ℤ o
EndsBelow o (Told e) = entry_last e <ℤ o
EndsBelow o (Both x e) = (last_offset x <ℤ o) × (entry_last e <ℤ o)

-- A copy that has seen these offsets can have what comes next, beside a sender that has seen those: of a batch that only
-- one of them keeps, the other has seen all of its span or none; two batches are alike; a list is of a batch that the
-- copy has seen, and ends in its span where it is kept.
abbrev pub CanHave : (copy sender : Runs) → Step → Type 0
CanHave copy sender Done = Unit {0}
CanHave copy sender (Kept x) = CoversAllOrNone sender x
CanHave copy sender (Told (Listed base offsets)) = covers copy base ≡ true
CanHave copy sender (Told (Sent b)) = CoversAllOrNone copy b
CanHave copy sender (Both x (Listed base offsets)) =
    CoversAllOrNone sender x × (last_listed base offsets ≤ℤ last_offset x)
CanHave copy sender (Both x (Sent b)) = AreAlike x b

-- what begins below the later start ends below it, and only what begins from there on is compared
abbrev pub Fits : (start : ℤ) → (copy sender : Runs) → Step → Type 0
Fits start copy sender step =
    (base_of step <ℤ start → EndsBelow start step) × (start ≤ℤ base_of step → CanHave copy sender step)
