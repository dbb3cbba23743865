-- Ends of copies, and the first offset that a copy hasn't seen.
use Rattle.std.proofs.Common.{◌≡◌, ◌^◌, ℤ, pos, ◌+ℤ◌, Bool, true, false, cond, ◌&&◌, ◌||◌, [], ◌∷◌, Some, None, refl, sym, ◌∙◌, true≢false, arith}
use Rattle.std.specs.Prelude.{◌≤ℤ◌, ◌<ℤ◌, int_lt, int_le}
use Rattle.std.specs.List.{find, list_any, cons_option}
use Rattle.std.specs.Int.{int_max}
use Rattle.std.proofs.lemmas.Int.{ints}
use Rattle.cover_ranges.specs.declared.TheConstants.{OFFSETS_END}
use Rattle.cover_ranges.specs.Runs.{Runs, covers, is_within, has_all, cut_below, end_of}
use Rattle.cover_ranges.proofs.RunsFrom.{RunsFrom}
use Rattle.cover_ranges.proofs.RunEnds.{start_to_end}
use Rattle.cleaning_courses.specs.Places.{behind_run}

next_two : (a : ℤ) → (a +ℤ pos 1) ≤ℤ (a +ℤ pos 2)
next_two a = omega (arith, ints)

-- what is covered lies below the end
pub covered_end : (start low o : ℤ) (rs : Runs) → RunsFrom low rs → covers rs o ≡ true → o <ℤ end_of start rs
covered_end start low o [] runs e = absurd (true≢false (sym e))
covered_end start low o (r ∷ rs) runs e = by (is_within o r) refl e (covered_end (r.1 +ℤ pos 1) (r.1 +ℤ pos 2) o rs runs.3)
  where
    within : is_within o r ≡ true → o ≤ℤ r.1
    within f = grind (arith, ints, f)

    by : (b : Bool) → is_within o r ≡ b → (b || covers rs o) ≡ true → (covers rs o ≡ true → o <ℤ end_of (r.1 +ℤ pos 1) rs) → o <ℤ end_of (r.1 +ℤ pos 1) rs
    by true f g ih =
        let here : o ≤ℤ r.1 = within f in
        let further : (r.1 +ℤ pos 1) ≤ℤ end_of (r.1 +ℤ pos 1) rs = start_to_end (r.1 +ℤ pos 1) (r.1 +ℤ pos 2) rs (next_two r.1) runs.3 in
        omega (arith, ints, here, further)
    by false f g ih = ih g

-- a later start doesn't take the end back
pub end_of_cut : (a b s : ℤ) (rs : Runs) → a ≤ℤ b → s ≤ℤ b → end_of a rs ≤ℤ end_of b (cut_below s rs)
end_of_cut a b s [] le from = le
end_of_cut a b s (r ∷ rs) le from = by (int_lt r.1 s) refl (end_of_cut (r.1 +ℤ pos 1) b s rs) (end_of_cut (r.1 +ℤ pos 1) (r.1 +ℤ pos 1) s rs)
  where
    below : int_lt r.1 s ≡ true → (r.1 +ℤ pos 1) ≤ℤ b
    below e = grind (arith, ints, e, from)

    above : int_lt r.1 s ≡ false → s ≤ℤ (r.1 +ℤ pos 1)
    above e = grind (arith, ints, e)

    same : (r.1 +ℤ pos 1) ≤ℤ (r.1 +ℤ pos 1)
    same = omega (arith, ints)

    by : (t : Bool) → int_lt r.1 s ≡ t → ((r.1 +ℤ pos 1) ≤ℤ b → s ≤ℤ b → end_of (r.1 +ℤ pos 1) rs ≤ℤ end_of b (cut_below s rs))
        → ((r.1 +ℤ pos 1) ≤ℤ (r.1 +ℤ pos 1) → s ≤ℤ (r.1 +ℤ pos 1) → end_of (r.1 +ℤ pos 1) rs ≤ℤ end_of (r.1 +ℤ pos 1) (cut_below s rs))
        → end_of (r.1 +ℤ pos 1) rs ≤ℤ end_of b (cons_option (cond t None (Some (int_max s r.0, r.1))) (cut_below s rs))
    by true e gone here = gone (below e) from
    by false e gone here = here same (above e)

-- no run that begins behind the start holds it
none_holds : (start low o : ℤ) (rs : Runs) → RunsFrom low rs → start <ℤ low → list_any (λ run. int_le run.0 start && int_le o run.1) rs ≡ false
none_holds start low o [] runs less = refl
none_holds start low o (r ∷ rs) runs less = grind (arith, ints, none_holds start (r.1 +ℤ pos 2) o rs runs.3 (omega (arith, ints, runs.0, runs.1, less)), runs.0, less)

-- all from the start to an offset was seen where that lies below the first one that wasn't
pub seen_below : (start low o : ℤ) (rs : Runs) → RunsFrom low rs → start ≤ℤ o → has_all rs start o ≡ int_lt o (behind_run start (find (is_within start) rs))
seen_below start low o [] runs le = grind (arith, ints, le)
seen_below start low o (r ∷ rs) runs le = by (is_within start r) refl (seen_below start (r.1 +ℤ pos 2) o rs runs.3 le)
  where
    bounds : is_within start r ≡ true → (r.0 ≤ℤ start) × (start ≤ℤ r.1)
    bounds e = (grind (arith, ints, e), grind (arith, ints, e))

    here : (any : Bool) → r.0 ≤ℤ start → any ≡ false → (int_lt o start || ((int_le r.0 start && int_le o r.1) || any)) ≡ int_lt o (r.1 +ℤ pos 1)
    here any begins none = grind (arith, ints, le, begins, none)

    not_here : is_within start r ≡ false → (int_le r.0 start && int_le o r.1) ≡ false
    not_here e = grind (arith, ints, e, le)

    skip : (a b any : Bool) → b ≡ false → (a || (b || any)) ≡ (a || any)
    skip a b any e = grind (arith, e)

    by : (t : Bool) → is_within start r ≡ t → has_all rs start o ≡ int_lt o (behind_run start (find (is_within start) rs))
        → has_all (r ∷ rs) start o ≡ int_lt o (behind_run start (cond t (Some r) (find (is_within start) rs)))
    by true e ih =
        let at = bounds e in
        here (list_any (λ run. int_le run.0 start && int_le o run.1) rs) at.0 (none_holds start (r.1 +ℤ pos 2) o rs runs.3 (omega (arith, ints, at.1)))
    by false e ih = skip (int_lt o start) (int_le r.0 start && int_le o r.1) (list_any (λ run. int_le run.0 start && int_le o run.1) rs) (not_here e) ∙ ih

-- the end is at most the greatest offset and one
pub end_in_range : (start low : ℤ) (rs : Runs) → start ≤ℤ pos (2 ^ 62) → RunsFrom low rs → end_of start rs ≤ℤ pos (2 ^ 62)
end_in_range start low [] le runs = le
end_in_range start low (r ∷ rs) le runs =
    let below : r.1 <ℤ OFFSETS_END = runs.2 in
    end_in_range (r.1 +ℤ pos 1) (r.1 +ℤ pos 2) rs (omega (arith, ints, below)) runs.3
