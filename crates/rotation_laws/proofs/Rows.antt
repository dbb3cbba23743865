-- Journals in a row: what they hold is one list of frames; what happens at their end adds to it, and what happens elsewhere
-- leaves it.
use Rattle.std.proofs.Common.{◌≡◌, ℕ, zero, suc, ◌+◌, ◌<◌, ◌≤◌, List, [], ◌++◌, Some, refl, sym, ap, ◌∙◌, arith, append_assoc, append-nil}
use Rattle.std.specs.Prelude.{◌≢◌}
use Rattle.std.proofs.lemmas.Option.{same_Some}
use Rattle.rotation_laws.specs.Directories.{Files, InARow}
use Rattle.rotation_laws.specs.Rotations.{Sets}

-- the journals of a row stay, whatever is done to others
pub row_same : {X F : Type 0} (d e : Files X F) (from count : ℕ) (frames : List F) → ((m : ℕ) → from ≤ m → m < from + count → e.journal m ≡ d.journal m)
    → InARow d from count frames → InARow e from count frames
row_same d e from zero frames same row = row
row_same d e from (suc n) frames same row = (
  row.0,
  row.1,
  same from (omega arith) (omega arith) ∙ row.2,
  row.3,
  row_same d e (suc from) n row.1 (λ m le lt. same m (omega (arith, le)) (omega (arith, lt))) row.4,
)

-- a row is of one list of frames
pub row_one : {X F : Type 0} (d : Files X F) (from count : ℕ) (frames others : List F) → InARow d from count frames → InARow d from count others → frames ≡ others
row_one d from zero frames others row again = row ∙ sym again
row_one d from (suc n) frames others row again =
    let first : row.0 ≡ again.0 = same_Some row.0 again.0 (sym row.2 ∙ again.2) in
    let rest : row.1 ≡ again.1 = row_one d (suc from) n row.1 again.1 row.4 again.4 in
    row.3 ∙ (λ i. first i ++ rest i) ∙ sym again.3

-- the last journal of a row is there
pub row_last : {X F : Type 0} (d : Files X F) (from n : ℕ) (frames : List F) → InARow d from (suc n) frames → (last : List F) × (d.journal (from + n) ≡ Some last)
row_last d from zero frames row =
    let e : from + zero ≡ from = omega arith in (row.0, ap d.journal e ∙ row.2)
row_last d from (suc n) frames row =
    let e : from + suc n ≡ suc from + n = omega arith in
    let found = row_last d (suc from) n row.1 row.4 in
    (found.0, ap d.journal e ∙ found.1)

-- frames come to the last one
pub row_appended : {X F : Type 0} (d e : Files X F) (from n last : ℕ) (frames held more : List F) → last ≡ from + n → d.journal last ≡ Some held
    → Sets last (Some (held ++ more)) d.journal e.journal → InARow d from (suc n) frames → InARow e from (suc n) (frames ++ more)
row_appended d e from zero last frames held more is there sets row =
    let here : last ≡ from = omega (arith, is) in
    let first : row.0 ≡ held = same_Some row.0 held (sym row.2 ∙ ap d.journal (sym here) ∙ there) in
    let whole : frames ≡ held = row.3 ∙ (λ i. first i ++ row.4 i) ∙ append-nil held in (
      held ++ more,
      [],
      ap e.journal (sym here) ∙ sets.here,
      (λ i. whole i ++ more) ∙ sym (append-nil (held ++ more)),
      refl,
    )
row_appended d e from (suc n) last frames held more is there sets row =
    let other : from ≢ last = λ same. absurd (omega (arith, same, is)) in (
      row.0,
      row.1 ++ more,
      sets.others from other ∙ row.2,
      ap (λ l. l ++ more) row.3 ∙ append_assoc row.0 row.1 more,
      row_appended d e (suc from) n last row.1 held more (omega (arith, is)) there sets row.4,
    )

-- a journal without frames comes behind it
pub row_opened : {X F : Type 0} (d e : Files X F) (from count next : ℕ) (frames : List F) → next ≡ from + count → Sets next (Some []) d.journal e.journal
    → InARow d from count frames → InARow e from (suc count) frames
row_opened d e from zero next frames is sets row =
    let here : next ≡ from = omega (arith, is) in
    ([], [], ap e.journal (sym here) ∙ sets.here, row, refl)
row_opened d e from (suc n) next frames is sets row =
    let other : from ≢ next = λ same. absurd (omega (arith, same, is)) in (
      row.0,
      row.1,
      sets.others from other ∙ row.2,
      row.3,
      row_opened d e (suc from) n next row.1 (omega (arith, is)) sets row.4,
    )
