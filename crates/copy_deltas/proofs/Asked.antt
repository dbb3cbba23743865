-- Whether some offset from one to another is asked, as a test.
use Rattle.std.proofs.Common.{◌≡◌, ℤ, Bool, true, false, [], ◌∷◌, refl, sym, subst, ◌∙◌, arith}
use Rattle.std.specs.Prelude.{◌≤ℤ◌, ◌↔◌, IsTrue, FitsSigned, ◌&&◌, ◌||◌, int_le}
use Rattle.std.specs.Int.{w64, cast_signed, cast_unsigned}
use Rattle.std.proofs.lemmas.Int.{ints, to_z-of_z}
use Rattle.batch_codec.specs.Values.{BatchValue}
use Rattle.batch_codec.specs.Offsets.{first_offset, last_offset}
use Rattle.cover_ranges.specs.Runs.{Runs, is_within, covers, IsCanonical, CoversAny}
use Rattle.deltas.specs.Deltas.{covers_any, is_asked}
use Rattle.deltas.proofs.Asking.{Met, asked_met}

-- a run that holds an offset of the span meets it
met_any : (runs : Runs) (first last o : ℤ) → first ≤ℤ o → o ≤ℤ last → covers runs o ≡ true → covers_any runs first last ≡ true
met_any [] first last o from to e = e
met_any (r ∷ rs) first last o from to e = by (is_within o r) refl e (met_any rs first last o from to)
  where
    here : (a z : ℤ) → (int_le a o && int_le o z) ≡ true → (int_le a last && int_le first z) ≡ true
    here a z f = grind (arith, ints, f, from, to)

    at_once : (s t : Bool) → s ≡ true → (s || t) ≡ true
    at_once s t f = grind arith

    later : (s t : Bool) → t ≡ true → (s || t) ≡ true
    later s t f = grind arith

    by : (t : Bool) → is_within o r ≡ t → (t || covers rs o) ≡ true → (covers rs o ≡ true → covers_any rs first last ≡ true) → covers_any (r ∷ rs) first last ≡ true
    by true t f ih = at_once (int_le r.0 last && int_le first r.1) (covers_any rs first last) (here r.0 r.1 t)
    by false t f ih = later (int_le r.0 last && int_le first r.1) (covers_any rs first last) (ih f)

-- the set's answer, as code asks it, is the definition's
pub asked_is : (asked : Runs) (b : BatchValue) (says : Bool) (first last : ℤ) → IsCanonical asked → first_offset b ≤ℤ last_offset b → FitsSigned w64 first → FitsSigned w64 last → first ≡ first_offset b → last ≡ last_offset b
    → IsTrue says ↔ CoversAny asked (cast_signed w64 (cast_unsigned w64 first)) (cast_signed w64 (cast_unsigned w64 last)) → says ≡ is_asked asked b
asked_is asked b says first last canonical span f l base end same = by says (is_asked asked b) refl same.0 same.1
  where
    first_is : cast_signed w64 (cast_unsigned w64 first) ≡ first_offset b
    first_is = to_z-of_z w64 first f ∙ base

    last_is : cast_signed w64 (cast_unsigned w64 last) ≡ last_offset b
    last_is = to_z-of_z w64 last l ∙ end

    Any : Type 0
    Any = CoversAny asked (cast_signed w64 (cast_unsigned w64 first)) (cast_signed w64 (cast_unsigned w64 last))

    found : Met asked (first_offset b) (last_offset b) → Any
    found met = (met.offset, subst (λ (z : ℤ). z ≤ℤ met.offset) (sym first_is) met.from, subst (λ (z : ℤ). met.offset ≤ℤ z) (sym last_is) met.to, met.covered)

    met : Any → is_asked asked b ≡ true
    met any = met_any asked (first_offset b) (last_offset b) any.0 (subst (λ (z : ℤ). z ≤ℤ any.0) first_is any.1) (subst (λ (z : ℤ). any.0 ≤ℤ z) last_is any.2) any.3

    by : (t s : Bool) → is_asked asked b ≡ s → (IsTrue t → Any) → (Any → IsTrue t) → t ≡ is_asked asked b
    by true s e to from = sym (met (to refl))
    by false false e to from = sym e
    by false true e to from = from (found (asked_met asked b canonical span e)) ∙ sym e
