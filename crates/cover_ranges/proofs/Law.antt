-- Equal members make equal lists.
use Rattle.std.proofs.Common.{◌≡◌, suc, Bool, true, false, ◌||◌, [], ◌∷◌, get_or, refl, sym, ap, ◌∙◌, subst, arith}
use Rattle.std.specs.Prelude.{ℤ, pos, ◌+ℤ◌, ◌<ℤ◌, ◌≤ℤ◌}
use Rattle.std.specs.List.{All}
use Rattle.std.proofs.lemmas.Int.{ints, by_lt_z}
use Rattle.std.proofs.lemmas.List.Folds.{list_any_none}
use Rattle.cover_ranges.specs.Runs.{Runs, is_within, covers, IsRun, IsApart, IsCanonical}
use Rattle.cover_ranges.proofs.Runs.{in_run, before_run, past_run}

-- the first run, the others past it, and the others alone
pub record Parts (x : ℤ × ℤ) (xs : Runs) : Type 0 where
  pub run : IsRun x
  pub past : All (IsApart x) xs
  pub rest : IsCanonical xs

pub parts_of : (x : ℤ × ℤ) (xs : Runs) → IsCanonical (x ∷ xs) → Parts x xs
parts_of x xs c = record {
  run = c.are_runs 0 x (omega arith);
  past = λ k d h. c.apart 0 (suc k) d (omega arith) (omega arith);
  rest = record {
    are_runs = λ k d h. c.are_runs (suc k) d (omega arith);
    apart = λ i j d lt h. c.apart (suc i) (suc j) d (omega arith) (omega arith);
  };
}

before_all : (a : ℤ × ℤ) (b : ℤ × ℤ) (o : ℤ) → IsApart a b → o ≤ℤ (a.1 +ℤ pos 1) → o <ℤ b.0
before_all a b o p q = omega (arith, ints)

-- up to one past the end of the first run the others cover nothing
rest_silent : (x : ℤ × ℤ) (xs : Runs) (o : ℤ) → All (IsApart x) xs → o ≤ℤ (x.1 +ℤ pos 1) → covers xs o ≡ false
rest_silent x xs o past le = list_any_none (is_within o) xs (λ k d h. before_run o (get_or xs k d) (before_all x (get_or xs k d) o (past k d h) le))

cons_covers : (x : ℤ × ℤ) (xs : Runs) (o : ℤ) → is_within o x ≡ true → covers (x ∷ xs) o ≡ true
cons_covers x xs o h = ap (λ (b : Bool). b || covers xs o) h

cons_silent : (x : ℤ × ℤ) (xs : Runs) (o : ℤ) → is_within o x ≡ false → covers xs o ≡ false → covers (x ∷ xs) o ≡ false
cons_silent x xs o h r = ap (λ (b : Bool). b || covers xs o) h ∙ r

cons_rest : (x : ℤ × ℤ) (xs : Runs) (o : ℤ) → is_within o x ≡ false → covers (x ∷ xs) o ≡ covers xs o
cons_rest x xs o h = ap (λ (b : Bool). b || covers xs o) h

both_ways : (b : Bool) → b ≡ true → b ≡ false → ⊥
both_ways b p q = cc

le_self : (a : ℤ) → a ≤ℤ a
le_self a = omega (arith, ints)

lt_next : (a b c : ℤ) → a <ℤ b → b ≤ℤ c → a ≤ℤ (c +ℤ pos 1)
lt_next a b c p q = omega (arith, ints)

next_le : (a b : ℤ) → a <ℤ b → (a +ℤ pos 1) ≤ℤ b
next_le a b p = omega (arith, ints)

past_end : (a : ℤ) → a <ℤ (a +ℤ pos 1)
past_end a = omega (arith, ints)

z_le_next : (a b c : ℤ) → a ≤ℤ b → b ≤ℤ c → a ≤ℤ (c +ℤ pos 1)
z_le_next a b c p q = omega (arith, ints)

-- no list whose first run starts later has the same members
starts_no_later : (x y : ℤ × ℤ) (xs ys : Runs) → Parts x xs → Parts y ys → ((o : ℤ) → covers (x ∷ xs) o ≡ covers (y ∷ ys) o) → x.0 <ℤ y.0 → ⊥
starts_no_later x y xs ys a b same lt =
    both_ways (covers (y ∷ ys) x.0) (sym (same x.0) ∙ cons_covers x xs x.0 (in_run x.0 x (le_self x.0) a.run.1))
    (cons_silent y ys x.0 (before_run x.0 y lt) (rest_silent y ys x.0 b.past (lt_next x.0 y.0 y.1 lt b.run.1)))

-- nor one whose first run starts there and ends later
ends_no_later : (x y : ℤ × ℤ) (xs ys : Runs) → Parts x xs → Parts y ys → ((o : ℤ) → covers (x ∷ xs) o ≡ covers (y ∷ ys) o) → y.0 ≤ℤ x.0 → x.1 <ℤ y.1 → ⊥
ends_no_later x y xs ys a b same le lt =
    both_ways (covers (x ∷ xs) (x.1 +ℤ pos 1)) (same (x.1 +ℤ pos 1) ∙ cons_covers y ys (x.1 +ℤ pos 1) (in_run (x.1 +ℤ pos 1) y (z_le_next y.0 x.0 x.1 le a.run.1) (next_le x.1 y.1 lt)))
    (cons_silent x xs (x.1 +ℤ pos 1) (past_run (x.1 +ℤ pos 1) x (past_end x.1)) (rest_silent x xs (x.1 +ℤ pos 1) a.past (le_self (x.1 +ℤ pos 1))))

le_both : (a b : ℤ) → b ≤ℤ a → a ≤ℤ b → a ≡ b
le_both a b p q = omega (arith, ints)

same_z : (a b : ℤ) → (a <ℤ b → ⊥) → (b <ℤ a → ⊥) → a ≡ b
same_z a b p q = by_lt_z a b (λ lt. absurd (p lt)) (λ le. by_lt_z b a (λ lt. absurd (q lt)) (λ ge. le_both a b le ge))

same_start : (x y : ℤ × ℤ) (xs ys : Runs) → Parts x xs → Parts y ys → ((o : ℤ) → covers (x ∷ xs) o ≡ covers (y ∷ ys) o) → x.0 ≡ y.0
same_start x y xs ys a b same = same_z x.0 y.0 (starts_no_later x y xs ys a b same) (starts_no_later y x ys xs b a (λ o. sym (same o)))

eq_le : (a b : ℤ) → a ≡ b → a ≤ℤ b
eq_le a b e = omega (arith, ints)

same_end : (x y : ℤ × ℤ) (xs ys : Runs) → Parts x xs → Parts y ys → ((o : ℤ) → covers (x ∷ xs) o ≡ covers (y ∷ ys) o) → x.0 ≡ y.0 → x.1 ≡ y.1
same_end x y xs ys a b same e =
    same_z x.1 y.1 (ends_no_later x y xs ys a b same (eq_le y.0 x.0 (sym e))) (ends_no_later y x ys xs b a (λ o. sym (same o)) (eq_le x.0 y.0 e))

same_run : (x y : ℤ × ℤ) → x.0 ≡ y.0 → x.1 ≡ y.1 → x ≡ y
same_run x y p q =
    let pair : ℤ → ℤ → ℤ × ℤ = λ a b. (a, b) in
    ap (λ (a : ℤ). pair a x.1) p ∙ ap (λ (b : ℤ). pair y.0 b) q

same_rest : (x : ℤ × ℤ) (xs ys : Runs) → Parts x xs → Parts x ys → ((o : ℤ) → covers (x ∷ xs) o ≡ covers (x ∷ ys) o) → (o : ℤ) → covers xs o ≡ covers ys o
same_rest x xs ys a b same o =
    by_lt_z x.1 o (λ lt. sym (cons_rest x xs o (past_run o x lt)) ∙ same o ∙ cons_rest x ys o (past_run o x lt))
    (λ le. rest_silent x xs o a.past (z_le_next o x.1 x.1 le (le_self x.1)) ∙ sym (rest_silent x ys o b.past (z_le_next o x.1 x.1 le (le_self x.1))))

nothing_covered : (x : ℤ × ℤ) (xs : Runs) → Parts x xs → covers (x ∷ xs) x.0 ≡ false → ⊥
nothing_covered x xs a e = both_ways (covers (x ∷ xs) x.0) (cons_covers x xs x.0 (in_run x.0 x (le_self x.0) a.run.1)) e

pub equal_lists : (xs ys : Runs) → IsCanonical xs → IsCanonical ys → ((o : ℤ) → covers xs o ≡ covers ys o) → xs ≡ ys
equal_lists [] [] c d same = refl
equal_lists [] (y ∷ ys) c d same = absurd (nothing_covered y ys (parts_of y ys d) (sym (same y.0)))
equal_lists (x ∷ xs) [] c d same = absurd (nothing_covered x xs (parts_of x xs c) (same x.0))
equal_lists (x ∷ xs) (y ∷ ys) c d same =
    let a : Parts x xs = parts_of x xs c in
    let b : Parts y ys = parts_of y ys d in
    let start : x.0 ≡ y.0 = same_start x y xs ys a b same in
    let e : x ≡ y = same_run x y start (same_end x y xs ys a b same start) in
    let Like : ℤ × ℤ → Type 0 = λ z. Parts z ys × ((o : ℤ) → covers (x ∷ xs) o ≡ covers (z ∷ ys) o) in
    let like : Like x = subst Like (sym e) (b, same) in
    ap (λ (z : ℤ × ℤ). z ∷ xs) e ∙ ap (λ (zs : Runs). y ∷ zs) (equal_lists xs ys a.rest b.rest (same_rest x xs ys a like.0 like.1))
