-- A set of offsets as its maximal runs. An offset is the position of a record in a partition's log:
-- it is not negative, it rises with each record, and a log that was compacted has gaps (Kafka's
-- documentation, "Log Compaction").
use Rattle.std.specs.Prelude.{ℤ, pos, ◌+ℤ◌, ◌<ℤ◌, ◌≤ℤ◌, int_lt, int_le, Bool, ◌&&◌, ◌||◌, IsTrue, Option, None, Some, List, [], ◌∷◌, if◌then◌else◌}
use Rattle.std.specs.List.{All, AllPairs, list_any, filter_map, fold}
use Rattle.std.specs.Int.{int_min, int_max}
use Rattle.cover_ranges.specs.declared.TheConstants.{OFFSETS_END}

-- runs of offsets, each from its first to its last, both of them in it
abbrev pub Runs : Type 0
Runs = List (ℤ × ℤ)

-- whether the offset lies in the run
abbrev pub is_within : ℤ → ℤ × ℤ → Bool
is_within o run = int_le run.0 o && int_le o run.1

-- whether the offset lies in one of the runs
abbrev pub covers : Runs → ℤ → Bool
covers runs o = list_any (is_within o) runs

-- a run that holds an offset, and nothing else but offsets
abbrev pub IsRun : ℤ × ℤ → Type 0
IsRun run = (pos 0 ≤ℤ run.0) × (run.0 ≤ℤ run.1) × (run.1 <ℤ OFFSETS_END)

-- at least one offset lies between the end of the one run and the start of the other
abbrev pub IsApart : ℤ × ℤ → ℤ × ℤ → Type 0
IsApart earlier later = (earlier.1 +ℤ pos 1) <ℤ later.0

-- maximal runs: they rise, and neither touch nor overlap
pub record IsCanonical (runs : Runs) : Type 0 where
  pub are_runs : All IsRun runs
  pub apart : AllPairs IsApart runs

-- ---- sets made of others

-- the offsets of the runs and those from `first` to `last`, joined with every run that these touch
unfoldable pub with_range : ℤ → ℤ → Runs → Runs
with_range first last [] = (first, last) ∷ []
with_range first last (run ∷ runs) =
    if int_lt (run.1 +ℤ pos 1) first then run ∷ with_range first last runs
    else if int_lt (last +ℤ pos 1) run.0 then (first, last) ∷ run ∷ runs
    else with_range (int_min first run.0) (int_max last run.1) runs

-- the offsets of both: the runs of a, and one after another those of b
abbrev pub union_of : Runs → Runs → Runs
union_of a b = fold (λ runs range. with_range range.0 range.1 runs) a b

-- what is left of a run from an offset on, if anything
abbrev pub run_from : ℤ → ℤ × ℤ → Option (ℤ × ℤ)
run_from start run = if int_lt run.1 start then None else Some (int_max start run.0, run.1)

-- what is left of the runs from an offset on
abbrev pub cut_below : ℤ → Runs → Runs
cut_below start runs = filter_map (run_from start) runs

-- the offset after the last run; `start` where there is no run
abbrev pub end_of : ℤ → Runs → ℤ
end_of start runs = fold (λ _ run. run.1 +ℤ pos 1) start runs

-- ---- questions

-- whether one run holds all offsets from `first` to `last`; true where there are none
abbrev pub has_all : Runs → ℤ → ℤ → Bool
has_all runs first last =
    int_lt last first || list_any (λ run. int_le run.0 first && int_le last run.1) runs

-- each offset from `first` to `last` is covered
abbrev pub CoversAll : Runs → ℤ → ℤ → Type 0
CoversAll runs first last = (o : ℤ) → first ≤ℤ o → o ≤ℤ last → IsTrue (covers runs o)

-- some offset from `first` to `last` is covered
abbrev pub CoversAny : Runs → ℤ → ℤ → Type 0
CoversAny runs first last = (o : ℤ) × (first ≤ℤ o) × (o ≤ℤ last) × IsTrue (covers runs o)

-- each offset that the one set covers the other covers too
abbrev pub IsSubset : Runs → Runs → Type 0
IsSubset inner outer = (o : ℤ) → IsTrue (covers inner o) → IsTrue (covers outer o)
