-- Sets made of others: a range more, two sets together, and what is left from an offset on.
use Rattle.std.proofs.Common.{ℕ, length, OnOk, ◌≡◌, Bool, true, false, ◌||◌, ◌&&◌, [], ◌∷◌, refl, sym, ap, ◌∙◌, subst, Result, Ok, Err, take, arith}
use Rattle.std.specs.Prelude.{ℤ, pos, ◌+ℤ◌, ◌<ℤ◌, ◌≤ℤ◌, int_lt, int_le, cond, None, Some}
use Rattle.std.specs.List.{cons_option}
use Rattle.std.specs.Int.{int_min, int_max}
use Rattle.std.proofs.lemmas.Int.{ints, clamps}
use Rattle.std.proofs.Math.Seq.{take-length}
use Rattle.cover_ranges.specs.declared.TheConstants.{OFFSETS_END}
use Rattle.cover_ranges.specs.Runs.{Runs, is_within, covers, IsCanonical, with_range, union_of, run_from, cut_below}
use Rattle.cover_ranges.proofs.Law.{equal_lists}
use Rattle.cover_ranges.proofs.RunsFrom.{RunsFrom, runs_lower, canonical_from, from_canonical}

-- ---- a range more: its members

or_nothing : (a b : Bool) → (a || b) ≡ (b || a)
or_nothing true true = refl
or_nothing true false = refl
or_nothing false true = refl
or_nothing false false = refl

or_rest : (a b c : Bool) → (a || (b || c)) ≡ ((a || b) || c)
or_rest true b c = refl
or_rest false b c = refl

or_front : (a b c : Bool) → (a || (b || c)) ≡ ((b || c) || a)
or_front true true c = refl
or_front true false true = refl
or_front true false false = refl
or_front false b c = or_nothing false (b || c)

or_join : (a b c : Bool) → (c || (a || b)) ≡ ((a || c) || b)
or_join true b true = refl
or_join true b false = refl
or_join false b true = refl
or_join false b false = refl

-- two runs that touch or overlap are one run
one_run : (f l o : ℤ) (r : ℤ × ℤ) → int_lt (r.1 +ℤ pos 1) f ≡ false → int_lt (l +ℤ pos 1) r.0 ≡ false
    → is_within o (int_min f r.0, int_max l r.1) ≡ (is_within o r || is_within o (f, l))
one_run f l o r p q = grind (arith, ints, clamps)

pub range_covers : (first last : ℤ) (runs : Runs) (o : ℤ) → covers (with_range first last runs) o ≡ (covers runs o || is_within o (first, last))
unfolding with_range
range_covers f l [] o = or_nothing (is_within o (f, l)) false
range_covers f l (r ∷ rs) o = by (int_lt (r.1 +ℤ pos 1) f) (int_lt (l +ℤ pos 1) r.0) refl refl (range_covers f l rs o) (range_covers (int_min f r.0) (int_max l r.1) rs o)
  where
    by : (p q : Bool) → int_lt (r.1 +ℤ pos 1) f ≡ p → int_lt (l +ℤ pos 1) r.0 ≡ q
        → covers (with_range f l rs) o ≡ (covers rs o || is_within o (f, l))
        → covers (with_range (int_min f r.0) (int_max l r.1) rs) o ≡ (covers rs o || is_within o (int_min f r.0, int_max l r.1))
        → covers (cond p (r ∷ with_range f l rs) (cond q ((f, l) ∷ r ∷ rs) (with_range (int_min f r.0) (int_max l r.1) rs))) o ≡ ((is_within o r || covers rs o) || is_within o (f, l))
    by true q ep eq behind joined = ap (λ (b : Bool). is_within o r || b) behind ∙ or_rest (is_within o r) (covers rs o) (is_within o (f, l))
    by false true ep eq behind joined = or_front (is_within o (f, l)) (is_within o r) (covers rs o)
    by false false ep eq behind joined = joined ∙ ap (λ (b : Bool). covers rs o || b) (one_run f l o r ep eq) ∙ or_join (is_within o r) (is_within o (f, l)) (covers rs o)

-- ---- a range more: the runs are maximal again

next_low : (f : ℤ) (r : ℤ × ℤ) → int_lt (r.1 +ℤ pos 1) f ≡ true → (r.1 +ℤ pos 2) ≤ℤ f
next_low f r p = grind (arith, ints)

end_low : (l : ℤ) (r : ℤ × ℤ) → int_lt (l +ℤ pos 1) r.0 ≡ true → (l +ℤ pos 2) ≤ℤ r.0
end_low l r p = grind (arith, ints)

min_low : (low f x : ℤ) → low ≤ℤ f → low ≤ℤ x → low ≤ℤ int_min f x
min_low low f x p q = omega (arith, ints, clamps)

max_end : (l x : ℤ) → l <ℤ OFFSETS_END → x <ℤ OFFSETS_END → int_max l x <ℤ OFFSETS_END
max_end l x p q = omega (arith, ints, clamps)

min_max : (f l : ℤ) (r : ℤ × ℤ) → f ≤ℤ l → int_min f r.0 ≤ℤ int_max l r.1
min_max f l r p = omega (arith, ints, clamps)

low_next : (low : ℤ) (r : ℤ × ℤ) → low ≤ℤ r.0 → r.0 ≤ℤ r.1 → low ≤ℤ (r.1 +ℤ pos 2)
low_next low r p q = omega (arith, ints)

z_refl : (a : ℤ) → a ≤ℤ a
z_refl a = omega (arith, ints)

z_trans : (a b c : ℤ) → a ≤ℤ b → b ≤ℤ c → a ≤ℤ c
z_trans a b c p q = omega (arith, ints)

max_low : (low s x : ℤ) → low ≤ℤ x → low ≤ℤ int_max s x
max_low low s x p = omega (arith, ints, clamps)

max_within : (s : ℤ) (r : ℤ × ℤ) → int_lt r.1 s ≡ false → r.0 ≤ℤ r.1 → int_max s r.0 ≤ℤ r.1
max_within s r e p = grind (arith, ints, clamps)

pub range_runs : (low first last : ℤ) (runs : Runs) → low ≤ℤ first → first ≤ℤ last → last <ℤ OFFSETS_END → RunsFrom low runs → RunsFrom low (with_range first last runs)
unfolding with_range
range_runs low f l [] lf fl end h = (lf, fl, end, tt)
range_runs low f l (r ∷ rs) lf fl end h =
    by (int_lt (r.1 +ℤ pos 1) f) (int_lt (l +ℤ pos 1) r.0) refl refl
    (λ lt. range_runs (r.1 +ℤ pos 2) f l rs (next_low f r lt) fl end h.3)
    (range_runs low (int_min f r.0) (int_max l r.1) rs (min_low low f r.0 lf h.0) (min_max f l r fl) (max_end l r.1 end h.2) (runs_lower low (r.1 +ℤ pos 2) rs (low_next low r h.0 h.1) h.3))
  where
    by : (p q : Bool) → int_lt (r.1 +ℤ pos 1) f ≡ p → int_lt (l +ℤ pos 1) r.0 ≡ q
        → (int_lt (r.1 +ℤ pos 1) f ≡ true → RunsFrom (r.1 +ℤ pos 2) (with_range f l rs))
        → RunsFrom low (with_range (int_min f r.0) (int_max l r.1) rs)
        → RunsFrom low (cond p (r ∷ with_range f l rs) (cond q ((f, l) ∷ r ∷ rs) (with_range (int_min f r.0) (int_max l r.1) rs)))
    by true q ep eq behind joined = (h.0, h.1, h.2, behind ep)
    by false true ep eq behind joined = (lf, fl, end, (end_low l r eq, h.1, h.2, h.3))
    by false false ep eq behind joined = joined

pub range_canonical : (first last : ℤ) (runs : Runs) → pos 0 ≤ℤ first → first ≤ℤ last → last <ℤ OFFSETS_END → IsCanonical runs → IsCanonical (with_range first last runs)
range_canonical f l runs zf fl end c = from_canonical (pos 0) (with_range f l runs) (z_refl (pos 0)) (range_runs (pos 0) f l runs zf fl end (canonical_from runs c))

-- ---- two sets together

pub union_covers : (a b : Runs) (o : ℤ) → covers (union_of a b) o ≡ (covers a o || covers b o)
union_covers a [] o = or_nothing false (covers a o)
union_covers a (r ∷ rs) o =
    union_covers (with_range r.0 r.1 a) rs o ∙ ap (λ (b : Bool). b || covers rs o) (range_covers r.0 r.1 a o) ∙ sym (or_rest (covers a o) (is_within o r) (covers rs o))

pub union_runs : (low high : ℤ) (a b : Runs) → low ≤ℤ high → RunsFrom low a → RunsFrom high b → RunsFrom low (union_of a b)
union_runs low high a [] le ha hb = ha
union_runs low high a (r ∷ rs) le ha hb =
    union_runs low (r.1 +ℤ pos 2) (with_range r.0 r.1 a) rs (low_next low r (z_trans low high r.0 le hb.0) hb.1) (range_runs low r.0 r.1 a (z_trans low high r.0 le hb.0) hb.1 hb.2 ha) hb.3

pub union_canonical : (a b : Runs) → IsCanonical a → IsCanonical b → IsCanonical (union_of a b)
union_canonical a b ca cb = from_canonical (pos 0) (union_of a b) (z_refl (pos 0)) (union_runs (pos 0) (pos 0) a b (z_refl (pos 0)) (canonical_from a ca) (canonical_from b cb))

-- ---- what is left from an offset on

from_run : (s o : ℤ) (r : ℤ × ℤ) (rs : Runs) → covers (cons_option (run_from s r) rs) o ≡ ((is_within o r && int_le s o) || covers rs o)
from_run s o r rs = grind (arith, ints, clamps)

and_or : (a b c : Bool) → ((a && c) || (b && c)) ≡ ((a || b) && c)
and_or true b true = refl
and_or true true false = refl
and_or true false false = refl
and_or false b c = refl

pub cut_covers : (start : ℤ) (runs : Runs) (o : ℤ) → covers (cut_below start runs) o ≡ (covers runs o && int_le start o)
cut_covers s [] o = refl
cut_covers s (r ∷ rs) o =
    from_run s o r (cut_below s rs) ∙ ap (λ (b : Bool). (is_within o r && int_le s o) || b) (cut_covers s rs o) ∙ and_or (is_within o r) (covers rs o) (int_le s o)

pub cut_runs : (low start : ℤ) (runs : Runs) → RunsFrom low runs → RunsFrom low (cut_below start runs)
cut_runs low s [] h = tt
cut_runs low s (r ∷ rs) h = by (int_lt r.1 s) refl (cut_runs (r.1 +ℤ pos 2) s rs h.3)
  where
    by : (p : Bool) → int_lt r.1 s ≡ p → RunsFrom (r.1 +ℤ pos 2) (cut_below s rs) → RunsFrom low (cons_option (cond p None (Some (int_max s r.0, r.1))) (cut_below s rs))
    by true e rest = runs_lower low (r.1 +ℤ pos 2) (cut_below s rs) (low_next low r h.0 h.1) rest
    by false e rest = (max_low low s r.0 h.0, max_within s r e h.1, h.2, rest)

pub cut_canonical : (start : ℤ) (runs : Runs) → IsCanonical runs → IsCanonical (cut_below start runs)
cut_canonical s runs c = from_canonical (pos 0) (cut_below s runs) (z_refl (pos 0)) (cut_runs (pos 0) s runs (canonical_from runs c))

-- ---- what has these members is this list

pub range_only : (first last : ℤ) (old new : Runs) → pos 0 ≤ℤ first → first ≤ℤ last → last <ℤ OFFSETS_END → IsCanonical old → IsCanonical new
    → ((o : ℤ) → covers new o ≡ (covers old o || is_within o (first, last))) → new ≡ with_range first last old
range_only f l old new zf fl end co cn same =
    equal_lists new (with_range f l old) cn (range_canonical f l old zf fl end co) (λ o. same o ∙ sym (range_covers f l old o))

pub range_only_ok : {T E : Type 0} (r : Result T E) (first last : ℤ) (old held new : Runs) → old ≡ held → pos 0 ≤ℤ first → first ≤ℤ last → last <ℤ OFFSETS_END → IsCanonical old → IsCanonical new
    → OnOk r ((o : ℤ) → covers new o ≡ (covers held o || is_within o (first, last))) → OnOk r (new ≡ with_range first last held)
range_only_ok (Ok x) f l old held new e zf fl end co cn same = range_only f l held new zf fl end (subst IsCanonical e co) cn same
range_only_ok (Err y) f l old held new e zf fl end co cn same = tt

pub union_only : (a b both : Runs) → IsCanonical a → IsCanonical b → IsCanonical both → ((o : ℤ) → covers both o ≡ (covers a o || covers b o)) → both ≡ union_of a b
union_only a b both ca cb c same = equal_lists both (union_of a b) c (union_canonical a b ca cb) (λ o. same o ∙ sym (union_covers a b o))

take_all : (xs : Runs) (i : ℕ) → i ≡ length xs → take i xs ≡ xs
take_all xs i e = ap (λ (n : ℕ). take n xs) e ∙ take-length xs

-- a pass over both that came to both ends
pub union_at_ends : (a b mine theirs both : Runs) (i j : ℕ) → mine ≡ a → theirs ≡ b → i ≡ length mine → j ≡ length theirs → IsCanonical a → IsCanonical b → IsCanonical both
    → ((o : ℤ) → covers both o ≡ (covers (take i mine) o || covers (take j theirs) o)) → both ≡ union_of a b
union_at_ends a b mine theirs both i j em et ei ej ca cb c same =
    union_only a b both ca cb c
    (λ o. same o ∙ ap (λ (xs : Runs). covers xs o || covers (take j theirs) o) (take_all mine i ei ∙ em) ∙ ap (λ (ys : Runs). covers a o || covers ys o) (take_all theirs j ej ∙ et))
