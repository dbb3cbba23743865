-- What is left of maximal runs from an offset on, by the index of the offset among them.
use Rattle.std.proofs.Common.{◌≡◌, ℕ, zero, suc, ◌<◌, ◌≤◌, Bool, true, false, ◌&&◌, [], ◌∷◌, length, get_or, drop, refl, sym, ap, ◌∙◌, subst, slice_set, arith}
use Rattle.std.specs.Prelude.{ℤ, pos, ◌+ℤ◌, ◌<ℤ◌, ◌≤ℤ◌, int_lt, int_le, cond, None, Some}
use Rattle.std.specs.List.{AllWithin, HoldsAt, cons_option}
use Rattle.std.specs.Int.{int_max}
use Rattle.std.proofs.lemmas.Int.{ints, clamps}
use Rattle.cover_ranges.specs.Runs.{Runs, covers, IsCanonical, cut_below}
use Rattle.cover_ranges.specs.Index.{IsIndexOf}
use Rattle.cover_ranges.proofs.RunsFrom.{RunsFrom, canonical_from}
use Rattle.cover_ranges.proofs.RunSets.{cut_covers, cut_canonical}

ends_below : (s : ℤ) (r : ℤ × ℤ) → r.1 <ℤ s → int_lt r.1 s ≡ true
ends_below s r h = grind (arith, ints)

ends_above : (s : ℤ) (r : ℤ × ℤ) → s ≤ℤ r.1 → int_lt r.1 s ≡ false
ends_above s r h = grind (arith, ints)

-- one run more, by whether it ends below the offset
cut_next : (s : ℤ) (r : ℤ × ℤ) (rs : Runs) (b : Bool) → int_lt r.1 s ≡ b → cut_below s (r ∷ rs) ≡ cons_option (cond b None (Some (int_max s r.0, r.1))) (cut_below s rs)
cut_next s r rs b e = ap (λ (b : Bool). cons_option (cond b None (Some (int_max s r.0, r.1))) (cut_below s rs)) e

max_later : (s x : ℤ) → s ≤ℤ x → int_max s x ≡ x
max_later s x h = omega (arith, ints, clamps)

later_end : (s low : ℤ) (r : ℤ × ℤ) → s ≤ℤ low → low ≤ℤ r.0 → r.0 ≤ℤ r.1 → s ≤ℤ r.1
later_end s low r p q h = omega (arith, ints)

later_start : (s low x : ℤ) → s ≤ℤ low → low ≤ℤ x → s ≤ℤ x
later_start s low x p q = omega (arith, ints)

later_next : (s x : ℤ) → s ≤ℤ x → s ≤ℤ (x +ℤ pos 2)
later_next s x p = omega (arith, ints)

-- runs that begin at the offset or later all stay
cut_later : (s low : ℤ) (rs : Runs) → s ≤ℤ low → RunsFrom low rs → cut_below s rs ≡ rs
cut_later s low [] le h = refl
cut_later s low (r ∷ rs) le h =
    let ends : s ≤ℤ r.1 = later_end s low r le h.0 h.1 in
    let start : int_max s r.0 ≡ r.0 = max_later s r.0 (later_start s low r.0 le h.0) in
    let rest : cut_below s rs ≡ rs = cut_later s (r.1 +ℤ pos 2) rs (later_next s r.1 ends) h.3 in
    cut_next s r rs false (ends_above s r ends) ∙ (λ i. (start i, r.1) ∷ rest i)

-- the runs, of which the first one begins at the offset or later
abbrev pub raised : ℤ → Runs → Runs
raised s [] = []
raised s (r ∷ rs) = (int_max s r.0, r.1) ∷ rs

tail_within : (r : ℤ × ℤ) (rs : Runs) (s : ℤ) (at : ℕ) → AllWithin (λ run. run.1 <ℤ s) (r ∷ rs) 0 (suc at) → AllWithin (λ run. run.1 <ℤ s) rs 0 at
tail_within r rs s at before k d lo hi = before (suc k) d (omega arith) (omega arith)

cut_by : (s low : ℤ) (rs : Runs) (at : ℕ) → RunsFrom low rs → at ≤ length rs → AllWithin (λ run. run.1 <ℤ s) rs 0 at → (at < length rs → HoldsAt (λ run. s ≤ℤ run.1) rs at)
    → raised s (drop at rs) ≡ cut_below s rs
cut_by s low [] zero h within before reached = refl
cut_by s low [] (suc at) h within before reached = absurd (omega arith)
cut_by s low (r ∷ rs) zero h within before reached =
    let ends : s ≤ℤ r.1 = reached (omega arith) r in
    sym (cut_next s r rs false (ends_above s r ends) ∙ ap (λ (xs : Runs). (int_max s r.0, r.1) ∷ xs) (cut_later s (r.1 +ℤ pos 2) rs (later_next s r.1 ends) h.3))
cut_by s low (r ∷ rs) (suc at) h within before reached =
    cut_by s (r.1 +ℤ pos 2) rs at h.3 (omega arith) (tail_within r rs s at before) (λ lt d. reached (omega arith) d)
    ∙ sym (cut_next s r rs true (ends_below s r (before 0 r (omega arith) (omega arith))))

pub cut_at : (s : ℤ) (rs : Runs) (at : ℕ) → IsCanonical rs → IsIndexOf s rs at → raised s (drop at rs) ≡ cut_below s rs
cut_at s rs at c index = cut_by s (pos 0) rs at (canonical_from rs c) index.within index.before index.reached

-- ---- in place: the runs before the index go, and the first one that is left is raised

-- `left` are the runs from the index on, and `x` where their first one is to begin
pub cut_some : (s x : ℤ) (rs held left : Runs) (at : ℕ) (r q : ℤ × ℤ) → held ≡ rs → IsCanonical rs → IsIndexOf s held at → left ≡ drop at rs → 0 < length left
    → r ≡ get_or left 0 r → q ≡ get_or left 0 q → x ≡ int_max s r.0 → slice_set left 0 (x, q.1) ≡ cut_below s rs
cut_some s x rs held [] at r q eh c index el some er eq ex = absurd (omega arith)
cut_some s x rs held (l ∷ ls) at r q eh c index el some er eq ex =
    let start : x ≡ int_max s l.0 = ex ∙ ap (λ (y : ℤ × ℤ). int_max s y.0) er in
    (λ i. (start i, (eq i).1) ∷ ls) ∙ ap (raised s) el ∙ cut_at s rs at c (subst (λ (xs : Runs). IsIndexOf s xs at) eh index)

pub cut_all : (s : ℤ) (rs held left : Runs) (at : ℕ) → held ≡ rs → IsCanonical rs → IsIndexOf s held at → left ≡ drop at rs → length left ≡ 0 → left ≡ cut_below s rs
cut_all s rs held [] at eh c index el none = ap (raised s) el ∙ cut_at s rs at c (subst (λ (xs : Runs). IsIndexOf s xs at) eh index)
cut_all s rs held (l ∷ ls) at eh c index el none = absurd (omega arith)

-- ---- the set as it was, and what is left of it

pub left_canonical : (z : ℤ) (old new : Runs) → IsCanonical old → new ≡ cut_below z old → IsCanonical new
left_canonical z old new c e = subst IsCanonical (sym e) (cut_canonical z old c)

pub left_covers : (s z : ℤ) (runs old new : Runs) → old ≡ runs → z ≡ s → new ≡ cut_below z old → (o : ℤ) → covers new o ≡ (covers runs o && int_le s o)
left_covers s z runs old new same passed e o = ap (λ (xs : Runs). covers xs o) e ∙ (λ i. covers (cut_below (passed i) (same i)) o) ∙ cut_covers s runs o
