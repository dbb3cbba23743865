-- Marks as numbers, and back.
use Rattle.std.proofs.Common.{◌≡◌, ℤ, List, [], ◌∷◌, ◌&&◌, ◌||◌, Bool, true, false, Some, None, refl, arith}
use Rattle.std.specs.Prelude.{pos, map, FitsSigned, if◌then◌else◌}
use Rattle.std.specs.Int.{w32, w64}
use Rattle.std.specs.List.{list_all, AllByRecursion}
use Rattle.std.specs.Ordering.{int_eq}
use Rattle.std.proofs.lemmas.Int.{ints, to_z-of_z}
use Rattle.frame_fields.specs.Fields.{Value, Fits}
use Rattle.frame_fields.specs.Reading.{nothing}
use Rattle.cleaning_marks.specs.declared.numbers.MarkNumbers.{MarkNumbers}
use Rattle.cleaning_marks.specs.declared.numbers.OneMark.{OneMark}
use Rattle.cleaning_marks.specs.Files.{as_int64, from_int64, entries_in, entry_fields, entry_value, entry_with, is_entry, is_mark, kept_in, mark_in, mark_numbers, marks_fields, marks_in, marks_value, numbers_in, numbers_of, raw_said, said_by}
use Rattle.cleaning_marks.specs.Faults.{have_marks}

-- ---- what was read, as it is written

abbrev one_mark : (there upto ended : ℤ) → OneMark
one_mark there upto ended = record { there = there; upto = upto; ended = ended }

one_is : (there upto ended there' upto' ended' : ℤ) → there ≡ there' → upto ≡ upto' → ended ≡ ended'
    → one_mark there upto ended ≡ one_mark there' upto' ended'
one_is there upto ended there' upto' ended' a b c = λ i. record { there = a i; upto = b i; ended = c i }

mark_by : (b : Bool) (there upto ended : ℤ) → int_eq there (pos 1) ≡ b → FitsSigned w64 ended
    → (b || (int_eq there (pos 0) && (int_eq upto (pos 0) && int_eq ended (pos 0)))) ≡ true
    → mark_numbers (if b then Some (record { upto = upto; ended = from_int64 ended }) else None) ≡ record { there = there; upto = upto; ended = ended }
mark_by true there upto ended is fits e =
    let one : pos 1 ≡ there = grind (arith, ints) in
    one_is (pos 1) upto (as_int64 (from_int64 ended)) there upto ended one refl (to_z-of_z w64 ended fits)
mark_by false there upto ended is fits e =
    let a : pos 0 ≡ there = grind (arith, ints) in
    let b : pos 0 ≡ upto = grind (arith, ints) in
    let c : pos 0 ≡ ended = grind (arith, ints) in
    one_is (pos 0) (pos 0) (pos 0) there upto ended a b c

mark_again : (r : OneMark) → FitsSigned w64 r.ended → is_mark r ≡ true → mark_numbers (mark_in r) ≡ r
mark_again r fits e = mark_by (int_eq r.there (pos 1)) r.there r.upto r.ended refl fits e

numbers_again : (n : MarkNumbers) → FitsSigned w64 n.older.ended → FitsSigned w64 n.newest.ended → FitsSigned w64 n.began → FitsSigned w64 n.size
    → is_mark n.older ≡ true → is_mark n.newest ≡ true → numbers_of (marks_in n) ≡ n
numbers_again n a b c d older newest = λ i. record {
  older = mark_again n.older a older i;
  newest = mark_again n.newest b newest i;
  used = n.used;
  reached = n.reached;
  began = to_z-of_z w64 n.began c i;
  size = to_z-of_z w64 n.size d i;
}

first_of : (a b : Bool) → (a && b) ≡ true → a ≡ true
first_of a b e = grind arith

second_of : (a b : Bool) → (a && b) ≡ true → b ≡ true
second_of a b e = grind arith

entry_again : (v : Value entry_fields) → Fits entry_fields v → is_entry v ≡ true → entry_value (kept_in v) ≡ v
unfolding Fits
entry_again v f e = λ i. entry_with v.0 v.1.0
    (numbers_again (numbers_in v) f.1.1.1.1.0 f.1.1.1.1.1.1.1.0 f.1.1.1.1.1.1.1.1.1.1.0 f.1.1.1.1.1.1.1.1.1.1.1.0
    (first_of (is_mark (numbers_in v).older) (is_mark (numbers_in v).newest) e) (second_of (is_mark (numbers_in v).older) (is_mark (numbers_in v).newest) e) i)

entries_again : (es : List (Value entry_fields)) → AllByRecursion (Fits entry_fields) es → list_all is_entry es ≡ true → map entry_value (map kept_in es) ≡ es
entries_again [] a e = refl
entries_again (v ∷ es) a e =
    let one : is_entry v ≡ true = grind arith in
    let others : list_all is_entry es ≡ true = grind arith in
    λ i. entry_again v a.0 one i ∷ entries_again es a.1 others i

-- the values that were read are those of what they say
pub value_again : (v : Value marks_fields) → Fits marks_fields v → have_marks v ≡ true → marks_value (said_by (raw_said v)) ≡ v
unfolding Fits
value_again v f e = λ i. (
  to_z-of_z w64 v.0 f.0 i,
  (
    v.1.0,
    (
      to_z-of_z w64 v.1.1.0 f.1.1.0 i,
      (
        to_z-of_z w64 v.1.1.1.0 f.1.1.1.0 i,
        (to_z-of_z w32 v.1.1.1.1.0 f.1.1.1.1.0 i, (entries_again (entries_in v) f.1.1.1.1.1.0.1 e i, nothing)),
      ),
    ),
  ),
)
