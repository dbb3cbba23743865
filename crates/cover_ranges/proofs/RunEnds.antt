-- Whether all of some offsets are covered, and where runs end.
use Rattle.std.proofs.Common.{◌≡◌, ℕ, ◌<◌, Bool, true, false, ◌||◌, ◌&&◌, [], ◌∷◌, length, get_or, refl, ap, ◌∙◌, subst, ◌⊎◌, inl, inr, arith}
use Rattle.std.specs.Prelude.{ℤ, pos, ◌+ℤ◌, ◌-ℤ◌, ◌<ℤ◌, ◌≤ℤ◌, int_lt, int_le, IsTrue, ◌↔◌}
use Rattle.std.specs.List.{All, Any, Contains, list_any}
use Rattle.std.proofs.lemmas.Int.{ints, by_lt_z}
use Rattle.std.proofs.lemmas.Bool.{cases_lt}
use Rattle.std.proofs.lemmas.List.{get_or_default}
use Rattle.std.proofs.lemmas.List.Elements.{All-cons, All-nil, All-contains}
use Rattle.std.proofs.lemmas.List.Folds.{list_any_at, list_any_none, Any-from_list_any}
use Rattle.cover_ranges.specs.Runs.{Runs, is_within, covers, IsCanonical, has_all, CoversAll, end_of}
use Rattle.cover_ranges.proofs.Runs.{in_run, run_bounds, before_run, past_run, not_covered_after, earlier}
use Rattle.cover_ranges.proofs.RunsFrom.{RunsFrom, canonical_from}

-- ---- all of some offsets

holds : (first last : ℤ) (r : ℤ × ℤ) → r.0 ≤ℤ first → last ≤ℤ r.1 → (int_le r.0 first && int_le last r.1) ≡ true
holds first last r p q = grind (arith, ints)

held_bounds : (first last : ℤ) (r : ℤ × ℤ) → (int_le r.0 first && int_le last r.1) ≡ true → (r.0 ≤ℤ first) × (last ≤ℤ r.1)
held_bounds first last r h = (grind (arith, ints), grind (arith, ints))

or_first : (a b : Bool) → a ≡ true → (a || b) ≡ true
or_first a b h = grind arith

or_second : (a b : Bool) → b ≡ true → (a || b) ≡ true
or_second true b h = refl
or_second false b h = h

or_cases : (a b : Bool) → (a || b) ≡ true → (a ≡ true) ⊎ (b ≡ true)
or_cases true b h = inl refl
or_cases false b h = inr h

both_ways : (b : Bool) → b ≡ true → b ≡ false → ⊥
both_ways b p q = cc

no_offsets : (first last o : ℤ) → int_lt last first ≡ true → first ≤ℤ o → o ≤ℤ last → ⊥
no_offsets first last o e p q = grind (arith, ints)

lt_true : (a b : ℤ) → a <ℤ b → int_lt a b ≡ true
lt_true a b h = grind (arith, ints)

z_refl : (a : ℤ) → a ≤ℤ a
z_refl a = omega (arith, ints)

z_trans : (a b c : ℤ) → a ≤ℤ b → b ≤ℤ c → a ≤ℤ c
z_trans a b c p q = omega (arith, ints)

next_lower : (a b : ℤ) → a <ℤ b → (a +ℤ pos 1) ≤ℤ b
next_lower a b p = omega (arith, ints)

to_next : (a b : ℤ) → a ≤ℤ b → a ≤ℤ (b +ℤ pos 1)
to_next a b p = omega (arith, ints)

in_held : (runs : Runs) (first last : ℤ) → Any (λ run. (int_le run.0 first && int_le last run.1) ≡ true) runs → CoversAll runs first last
in_held runs first last w o p q =
    let r : ℤ × ℤ = w.1 in
    let b : (r.0 ≤ℤ first) × (last ≤ℤ r.1) = held_bounds first last r w.4 in
    list_any_at (is_within o) runs w.0 r w.2 (ap (is_within o) w.3 ∙ in_run o r (z_trans r.0 first o b.0 p) (z_trans o last r.1 q b.1))

-- where all are covered, the run that covers the first one reaches to the last: else its end would be followed by a gap
reaches_last : (runs : Runs) (first last : ℤ) → IsCanonical runs → first ≤ℤ last → CoversAll runs first last → list_any (λ run. int_le run.0 first && int_le last run.1) runs ≡ true
reaches_last runs first last c some all =
    let w : Any (λ run. is_within first run ≡ true) runs = Any-from_list_any (is_within first) runs (all first (z_refl first) some) in
    let k : ℕ = w.0 in
    let r : ℤ × ℤ = get_or runs k w.1 in
    let here : is_within first r ≡ true = ap (is_within first) w.3 ∙ w.4 in
    let b : (r.0 ≤ℤ first) × (first ≤ℤ r.1) = run_bounds first r here in
    list_any_at (λ run. int_le run.0 first && int_le last run.1) runs k w.1 w.2
    (by_lt_z r.1 last
    (λ lt. absurd (both_ways (covers runs (r.1 +ℤ pos 1)) (all (r.1 +ℤ pos 1) (to_next first r.1 b.1) (next_lower r.1 last lt)) (not_covered_after runs k w.1 c w.2)))
    (λ le. holds first last r b.0 le))

pub has_all_covers : (runs : Runs) (first last : ℤ) → IsTrue (has_all runs first last) → CoversAll runs first last
has_all_covers runs first last h =
    elim (or_cases (int_lt last first) (list_any (λ run. int_le run.0 first && int_le last run.1) runs) h) [
      | inl none ↦ (λ o p q. absurd (no_offsets first last o none p q))
      | inr some ↦ in_held runs first last (Any-from_list_any (λ run. int_le run.0 first && int_le last run.1) runs some)
    ]

pub covers_has_all : (runs : Runs) (first last : ℤ) → IsCanonical runs → CoversAll runs first last → IsTrue (has_all runs first last)
covers_has_all runs first last c all =
    by_lt_z last first (λ lt. or_first (int_lt last first) (list_any (λ run. int_le run.0 first && int_le last run.1) runs) (lt_true last first lt))
    (λ le. or_second (int_lt last first) (list_any (λ run. int_le run.0 first && int_le last run.1) runs) (reaches_last runs first last c le all))

pub has_all_is : (runs : Runs) (first last : ℤ) → IsCanonical runs → IsTrue (has_all runs first last) ↔ CoversAll runs first last
has_all_is runs first last c = (has_all_covers runs first last, covers_has_all runs first last c)

-- ---- where runs end

start_past : (a b : ℤ × ℤ) → (a.1 +ℤ pos 1) <ℤ b.0 → a.1 <ℤ (b.0 -ℤ pos 1)
start_past a b p = omega (arith, ints)

start_below : (a b : ℤ × ℤ) → a.0 ≤ℤ b.0 → (a.0 -ℤ pos 1) <ℤ b.0
start_below a b p = omega (arith, ints)

lt_le : (a b : ℤ) → a <ℤ b → a ≤ℤ b
lt_le a b p = omega (arith, ints)

-- the offset before a run is not covered
pub not_covered_before : (rs : Runs) (at : ℕ) (d : ℤ × ℤ) → IsCanonical rs → at < length rs → covers rs ((get_or rs at d).0 -ℤ pos 1) ≡ false
not_covered_before rs at d c h =
    list_any_none (is_within ((get_or rs at d).0 -ℤ pos 1)) rs (λ k e hk.
    rw (get_or_default rs k e d hk)
    (elim (cases_lt k at) [
      | inl lt ↦ past_run ((get_or rs at d).0 -ℤ pos 1) (get_or rs k d) (start_past (get_or rs k d) (get_or rs at d) (earlier rs k at d c lt h).1)
      | inr ge ↦ (elim (cases_lt at k) [
        | inl lt ↦ before_run ((get_or rs at d).0 -ℤ pos 1) (get_or rs k d) (start_below (get_or rs at d) (get_or rs k d) (lt_le (get_or rs at d).0 (get_or rs k d).0 (earlier rs at k d c lt hk).0))
        | inr ge2 ↦ (let e2 : at ≡ k = omega arith in let Q : ℕ → Type 0 = λ i. is_within ((get_or rs at d).0 -ℤ pos 1) (get_or rs i d) ≡ false in subst Q e2 (before_run ((get_or rs at d).0 -ℤ pos 1) (get_or rs at d) (start_below (get_or rs at d) (get_or rs at d) (z_refl (get_or rs at d).0))))
      ])
    ]))

pub gap_before : (runs : Runs) (run : ℤ × ℤ) → IsCanonical runs → Contains runs run → covers runs (run.0 -ℤ pos 1) ≡ false
gap_before runs run c in_runs =
    let Q : ℤ × ℤ → Type 0 = λ r. covers runs (r.0 -ℤ pos 1) ≡ false in
    subst Q in_runs.2 (not_covered_before runs in_runs.0 run c in_runs.1)

pub gap_after : (runs : Runs) (run : ℤ × ℤ) → IsCanonical runs → Contains runs run → covers runs (run.1 +ℤ pos 1) ≡ false
gap_after runs run c in_runs =
    let Q : ℤ × ℤ → Type 0 = λ r. covers runs (r.1 +ℤ pos 1) ≡ false in
    subst Q in_runs.2 (not_covered_after runs in_runs.0 run c in_runs.1)

end_past : (a b e : ℤ) → a ≤ℤ b → (b +ℤ pos 1) ≤ℤ e → a ≤ℤ e
end_past a b e p q = omega (arith, ints)

end_reached : (a e : ℤ) → (a +ℤ pos 1) ≤ℤ e → a <ℤ e
end_reached a e p = omega (arith, ints)

next_two : (a : ℤ) → (a +ℤ pos 1) ≤ℤ (a +ℤ pos 2)
next_two a = omega (arith, ints)

pub start_to_end : (start low : ℤ) (rs : Runs) → start ≤ℤ low → RunsFrom low rs → start ≤ℤ end_of start rs
start_to_end s low [] le h = z_refl s
start_to_end s low (r ∷ rs) le h =
    end_past s r.1 (end_of (r.1 +ℤ pos 1) rs) (z_trans s low r.1 le (z_trans low r.0 r.1 h.0 h.1)) (start_to_end (r.1 +ℤ pos 1) (r.1 +ℤ pos 2) rs (next_two r.1) h.3)

pub runs_below_end : (start low : ℤ) (rs : Runs) → RunsFrom low rs → All (λ run. run.1 <ℤ end_of start rs) rs
runs_below_end s low [] h = All-nil (λ run. run.1 <ℤ s)
runs_below_end s low (r ∷ rs) h =
    All-cons (λ run. run.1 <ℤ end_of (r.1 +ℤ pos 1) rs) r rs (end_reached r.1 (end_of (r.1 +ℤ pos 1) rs) (start_to_end (r.1 +ℤ pos 1) (r.1 +ℤ pos 2) rs (next_two r.1) h.3))
    (runs_below_end (r.1 +ℤ pos 1) (r.1 +ℤ pos 2) rs h.3)

pub below_end : (start : ℤ) (runs : Runs) (run : ℤ × ℤ) → IsCanonical runs → Contains runs run → run.1 <ℤ end_of start runs
below_end start runs run c in_runs = All-contains (λ r. r.1 <ℤ end_of start runs) runs run (runs_below_end start (pos 0) runs (canonical_from runs c)) in_runs
