-- Batches that lie in ranges are those of a valid content.
use Rattle.std.proofs.Common.{◌≡◌, ℕ, ◌<◌, length, ℤ, pos, ◌+ℤ◌, true, Some, List, [], ◌∷◌, get_or, sym, ap, subst, ◌∙◌, arith}
use Rattle.std.specs.Prelude.{◌≤ℤ◌}
use Rattle.std.specs.List.{AllByRecursion}
use Rattle.std.proofs.lemmas.Int.{ints}
use Rattle.std.proofs.lemmas.List.Folds.{Any-from_list_any}
use Rattle.batch_codec.specs.Values.{BatchValue}
use Rattle.batch_codec.specs.Offsets.{first_offset, last_offset, SpansRise}
use Rattle.cover_ranges.specs.Runs.{Runs, is_within, covers, IsCanonical, CoversAll}
use Rattle.cover_ranges.proofs.Runs.{run_bounds, covers_at}
use Rattle.cover_ranges.proofs.RunsFrom.{RunsFrom, runs_lower, runs_from, starts_from, canonical_from, from_canonical}
use Rattle.content.specs.ByOffset.{look_up}
use Rattle.content.specs.Records.{IsKeepable}
use Rattle.content.specs.Content.{IsContent}
use Rattle.content_laws.proofs.ByOffset.{all_at, look_up-offset}
use Rattle.partition_log.specs.Below.{content_of}
use Rattle.copy_images.specs.Refusals.{IsLogStart, IsCoverFrom}

-- ---- ranges from a start on

all_from : (low : ℤ) (runs : Runs) → RunsFrom low runs → AllByRecursion (λ range. low ≤ℤ range.0) runs
all_from low [] h = tt
all_from low (run ∷ runs) h =
    let a : low ≤ℤ run.0 = h.0 in
    let b : run.0 ≤ℤ run.1 = h.1 in
    (h.0, all_from low runs (runs_lower low (run.1 +ℤ pos 2) runs (omega (arith, ints)) h.3))

-- as runs by recursion, and back
pub cover_from : (start : ℤ) (runs : Runs) → pos 0 ≤ℤ start → RunsFrom start runs → IsCoverFrom start runs
cover_from start runs z h = (from_canonical start runs z h, all_from start runs h)

pub from_cover : (start : ℤ) (runs : Runs) → IsCoverFrom start runs → RunsFrom start runs
from_cover start [] cover = tt
from_cover start (run ∷ runs) cover =
    let h : RunsFrom (pos 0) (run ∷ runs) = canonical_from (run ∷ runs) cover.0 in
    (cover.1.0, h.1, h.2, h.3)

-- no offset below the start was seen
pub seen_from : (start : ℤ) (runs : Runs) → RunsFrom start runs → (o : ℤ) → covers runs o ≡ true → start ≤ℤ o
seen_from start runs h o e =
    let at = Any-from_list_any (is_within o) runs e in
    let run : ℤ × ℤ = get_or runs at.0 at.1 in
    let within : is_within o run ≡ true = ap (is_within o) at.3 ∙ at.4 in
    let bounds = run_bounds o run within in
    let low : start ≤ℤ run.0 = starts_from start runs h at.0 at.1 at.2 in
    omega (arith, ints, low, bounds)

-- ---- batches inside them

rise_from : (start : ℤ) (bs : List BatchValue) → SpansRise (pos 0) bs → AllByRecursion (λ b. start ≤ℤ first_offset b) bs → SpansRise start bs
rise_from start [] h all = tt
rise_from start (b ∷ bs) h all = (all.0, h.1)

firsts_from : (start : ℤ) (runs : Runs) (bs : List BatchValue) → RunsFrom start runs → AllByRecursion IsKeepable bs → AllByRecursion (λ b. CoversAll runs (first_offset b) (last_offset b)) bs
    → AllByRecursion (λ b. start ≤ℤ first_offset b) bs
firsts_from start runs [] h keepable seen = tt
firsts_from start runs (b ∷ bs) h keepable seen =
    let delta : pos 0 ≤ℤ b.head.last_delta = keepable.0.0.valid.last_delta in
    let first : covers runs (first_offset b) ≡ true = seen.0 (first_offset b) (omega (arith, ints)) (omega (arith, ints, delta)) in
    (seen_from start runs h (first_offset b) first, firsts_from start runs bs h keepable.1 seen.1)

pub kept_content : (start : ℤ) (ranges : Runs) (bs : List BatchValue) → IsLogStart start → IsCoverFrom start ranges → SpansRise (pos 0) bs → AllByRecursion IsKeepable bs
    → AllByRecursion (λ b. CoversAll ranges (first_offset b) (last_offset b)) bs → IsContent (content_of start ranges bs)
kept_content start ranges bs bounds cover rise keepable seen = record {
  in_range = (bounds.0, bounds.1);
  canonical = cover.0;
  above = seen_from start ranges (from_cover start ranges cover);
  disjoint = rise_from start bs rise (firsts_from start ranges bs (from_cover start ranges cover) keepable seen);
  keepable = keepable;
  inside = λ base o b there from to. at base o b there from to;
}
  where
    at : (base o : ℤ) (b : BatchValue) → look_up first_offset base bs ≡ Some b → base ≤ℤ o → o ≤ℤ last_offset b → covers ranges o ≡ true
    at base o b there from to =
        let all : CoversAll ranges (first_offset b) (last_offset b) = all_at first_offset (λ b. CoversAll ranges (first_offset b) (last_offset b)) base bs b seen there in
        all o (subst (λ (z : ℤ). z ≤ℤ o) (sym (look_up-offset first_offset base bs b there)) from) to

-- ---- of a valid content

spans_lower : (start : ℤ) (bs : List BatchValue) → pos 0 ≤ℤ start → SpansRise start bs → SpansRise (pos 0) bs
spans_lower start [] z h = tt
spans_lower start (b ∷ bs) z h = let a : start ≤ℤ first_offset b = h.0 in (omega (arith, ints), h.1)

-- its batches rise from 0 on
pub rise_from_0 : (start : ℤ) (ranges : Runs) (bs : List BatchValue) → IsContent (content_of start ranges bs) → SpansRise (pos 0) bs
rise_from_0 start ranges bs content = spans_lower start bs content.in_range.0 content.disjoint

-- a run that begins below the start would hold an offset there
pub runs_above : (start : ℤ) (runs : Runs) → IsCanonical runs → ((o : ℤ) → covers runs o ≡ true → start ≤ℤ o) → AllByRecursion (λ range. start ≤ℤ range.0) runs
runs_above start runs canonical above = all_from start runs (runs_from start runs canonical (λ k d lt. above (get_or runs k d).0 (first_covered runs k d canonical lt)))
  where
    first_covered : (runs : Runs) (k : ℕ) (d : ℤ × ℤ) → IsCanonical runs → k < length runs → covers runs (get_or runs k d).0 ≡ true
    first_covered runs k d canonical lt =
        let some : (get_or runs k d).0 ≤ℤ (get_or runs k d).1 = (canonical.are_runs k d lt).1 in
        covers_at runs k d (get_or runs k d).0 lt (omega (arith, ints)) some

pub content_cover : (start : ℤ) (ranges : Runs) (bs : List BatchValue) → IsContent (content_of start ranges bs) → IsCoverFrom start ranges
content_cover start ranges bs content = (content.canonical, runs_above start ranges content.canonical content.above)
