-- Ranges that are asked for: which may be, and how they become a set, one after the other.
use Rattle.std.proofs.Common.{◌≡◌, ℤ, pos, Bool, true, false, [], ◌∷◌, ◌++◌, None, refl, sym, ap, subst, ◌∙◌, append_assoc, arith}
use Rattle.std.specs.Prelude.{◌+ℤ◌, ◌≤ℤ◌, ◌<ℤ◌, not}
use Rattle.std.proofs.lemmas.Int.{ints}
use Rattle.cover_ranges.specs.declared.TheConstants.{OFFSETS_END}
use Rattle.cover_ranges.specs.Runs.{Runs, IsRun, IsCanonical, with_range}
use Rattle.cover_ranges.proofs.RunsFrom.{RunsFrom, canonical_from, from_canonical}
use Rattle.copy_images.specs.Reading.{are_runs}
use Rattle.copy_images.proofs.ReadBack.{runs_say, runs_said}
use Rattle.answering.specs.declared.codes.ErrorCode.TheVariants.{InvalidRequest}
use Rattle.answering.specs.Lists.{fault_if}
use Rattle.answering.proofs.Checks.{no_fault}
use Rattle.copy_requests.specs.ExportDelta.{asked_fault}

-- ---- what may be asked

passing : (b : Bool) → fault_if (not b) InvalidRequest ≡ None → b ≡ true
passing true e = refl
passing false e = absurd cc

pub asked_runs : (asked : Runs) → asked_fault asked ≡ None → IsCanonical asked
asked_runs asked e = from_canonical (pos 0) asked (omega (arith, ints)) (runs_say (pos 0) asked (passing (are_runs (pos 0) asked) e))

pub runs_asked : (asked : Runs) → IsCanonical asked → asked_fault asked ≡ None
runs_asked asked is = no_fault (not (are_runs (pos 0) asked)) InvalidRequest (ap not (runs_said (pos 0) asked (canonical_from asked is)))

-- ---- taken into a set

-- a range among others
among : (low : ℤ) (xs : Runs) (run : ℤ × ℤ) (ys : Runs) → RunsFrom low (xs ++ run ∷ ys) → (low ≤ℤ run.0) × (run.0 ≤ℤ run.1) × (run.1 <ℤ OFFSETS_END)
among low [] run ys h = (h.0, h.1, h.2)
among low (x ∷ xs) run ys h =
    let m = among (x.1 +ℤ pos 2) xs run ys h.3 in
    let from : low ≤ℤ x.0 = h.0 in
    let to : x.0 ≤ℤ x.1 = h.1 in
    let behind : (x.1 +ℤ pos 2) ≤ℤ run.0 = m.0 in
    (omega (arith, ints), m.1, m.2)

-- one above all others comes last
added_last : (low : ℤ) (xs : Runs) (run : ℤ × ℤ) (ys : Runs) → RunsFrom low (xs ++ run ∷ ys) → with_range run.0 run.1 xs ≡ xs ++ run ∷ []
unfolding with_range
added_last low [] run ys h = refl
added_last low (x ∷ xs) run ys h =
    let behind : (x.1 +ℤ pos 2) ≤ℤ run.0 = (among (x.1 +ℤ pos 2) xs run ys h.3).0 in
    let apart : (x.1 +ℤ pos 1) <ℤ run.0 = omega (arith, ints) in
    let others : with_range run.0 run.1 xs ≡ xs ++ run ∷ [] = added_last (x.1 +ℤ pos 2) xs run ys h.3 in
    grind (arith, ints)

module _ (all held left rest : Runs) (run : ℤ × ℤ) (are : are_runs (pos 0) all ≡ true) (so_far : held ++ left ≡ all) (next : left ≡ run ∷ rest) where
  split : held ++ run ∷ rest ≡ all
  split = ap (λ (x : Runs). held ++ x) (sym next) ∙ so_far

  runs : RunsFrom (pos 0) (held ++ run ∷ rest)
  runs = subst (RunsFrom (pos 0)) (sym split) (runs_say (pos 0) all are)

  pub next_is_run : IsRun run
  next_is_run = among (pos 0) held run rest runs

  -- its two offsets passed by value
  pub next_taken : (new : Runs) (first last : ℤ) → first ≡ run.0 → last ≡ run.1 → new ≡ with_range first last held → new ++ rest ≡ all
  next_taken new first last is_first is_last e =
      ap (λ (x : Runs). x ++ rest) (e ∙ (λ i. with_range (is_first i) (is_last i) held) ∙ added_last (pos 0) held run rest runs) ∙ append_assoc held (run ∷ []) rest ∙ split
