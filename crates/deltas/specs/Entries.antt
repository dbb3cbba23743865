-- What a delta tells of one batch that its sender keeps, by this project's own rule: the offsets of its
-- records, or all of it.
use Rattle.std.specs.Prelude.{◌≡◌, ◌≤◌, ℤ, pos, ◌+ℤ◌, ◌≤ℤ◌, true, List, [], ◌∷◌, length, Option, Some, None, FitsSigned}
use Rattle.std.specs.List.{AllByRecursion, filter_map, fold}
use Rattle.std.specs.Int.{w64}
use Rattle.batch_codec.specs.Values.{BatchValue}
use Rattle.batch_codec.specs.Offsets.{first_offset, last_offset}
use Rattle.cover_ranges.specs.Runs.{Runs, covers, CoversAll, CoversAny}
use Rattle.content.specs.ByOffset.{Rises}
use Rattle.content.specs.Records.{IsKeepable}
use Rattle.content.specs.Content.{IsInRange}
use Rattle.deltas.specs.declared.TheConstants.{MAX_LISTED}

pub data Entry : Type 0 where
  -- a batch's base offset, and the offsets of its records
  Listed : ℤ → List ℤ → Entry
  -- the whole batch
  Sent : BatchValue → Entry

-- the last of the offsets, or the base where there is none
abbrev pub last_listed : ℤ → List ℤ → ℤ
last_listed base offsets = fold (λ _ o. o) base offsets

abbrev pub entry_base : Entry → ℤ
entry_base (Listed base offsets) = base
entry_base (Sent b) = first_offset b

-- the last offset that the entry tells of
abbrev pub entry_last : Entry → ℤ
entry_last (Listed base offsets) = last_listed base offsets
entry_last (Sent b) = last_offset b

abbrev pub batch_sent : Entry → Option BatchValue
batch_sent (Listed base offsets) = None
batch_sent (Sent b) = Some b

-- the batches that are sent whole
abbrev pub sent : List Entry → List BatchValue
sent entries = filter_map batch_sent entries

-- ---- which entries are valid

-- each offset is above the one before it, and the first is at least `low`
abbrev pub OffsetsRise : ℤ → List ℤ → Type 0
OffsetsRise low offsets = Rises (λ o. o) low offsets

abbrev pub AreCovered : Runs → List ℤ → Type 0
AreCovered runs offsets = AllByRecursion (λ o. covers runs o ≡ true) offsets

-- offsets that rise from the base on, as an entry lists them
pub record IsList (base : ℤ) (offsets : List ℤ) : Type 0 where
  pub rise : OffsetsRise base offsets
  pub base_fits : FitsSigned w64 base
  pub offsets_fit : AllByRecursion (FitsSigned w64) offsets
  pub counted : length offsets ≤ MAX_LISTED

-- an entry by itself, its base at least `low`
abbrev pub MayFollow : ℤ → Entry → Type 0
MayFollow low (Listed base offsets) = (low ≤ℤ base) × IsList base offsets
MayFollow low (Sent b) = (low ≤ℤ first_offset b) × IsKeepable b × IsInRange b

-- The sender has seen what an entry tells of. A batch that has an asked offset in its span isn't sent.
abbrev pub IsWithin : Runs → Runs → Entry → Type 0
IsWithin runs asked (Listed base offsets) = (covers runs base ≡ true) × AreCovered runs offsets
IsWithin runs asked (Sent b) =
    CoversAll runs (first_offset b) (last_offset b) × ¬ CoversAny asked (first_offset b) (last_offset b)

-- each entry begins after the last offset of the one before it, and the first at `low` or later
abbrev pub AreEntries : Runs → Runs → ℤ → List Entry → Type 0
AreEntries runs asked low [] = Unit {0}
AreEntries runs asked low (x ∷ xs) =
    MayFollow low x × IsWithin runs asked x × AreEntries runs asked (entry_last x +ℤ pos 1) xs
