-- A partition that is due has its turn.
use Rattle.std.proofs.Common.{◌≡◌, ◌⊎◌, ℕ, zero, suc, ◌+◌, ◌-◌, ◌<◌, ◌≤◌, Bool, true, false, cond, nat_le, nat_lt, min, List, [], ◌∷◌, length, drop, slice_get, refl, sym, ap, subst, ◌∙◌, inl, inr, arith}
use Rattle.std.specs.Prelude.{Option, Some, None, IfSome}
use Rattle.std.specs.Option.{option_or}
use Rattle.std.proofs.lemmas.Option.{none-some, same_Some}
use Rattle.cleaning_policy.specs.declared.values.Pass.{Pass}
use Rattle.cleaning_policy.specs.declared.values.Settings.{Settings}
use Rattle.cleaning_policy.specs.Partitions.{Part, due_pass}
use Rattle.cleaning_policy.specs.Policies.{Known, first_pass, next_pass, turns_before}
use Rattle.cleaning_policy.proofs.Turns.{due_of, IsBetween, first_within, next_within}

-- a pass is found, of a partition up to an index
abbrev Finds : Option Pass → ℕ → Type 0
Finds r m = (q : Pass) × (r ≡ Some q) × (q.frame.partition ≤ m)

or_rest : (i m : ℕ) (r s : Option Pass) → i ≤ m → IfSome r (λ q. q.frame.partition ≡ i) → Finds s m → Finds (option_or r s) m
or_rest i m None s le h f = f
or_rest i m (Some q) s le h f = (q, refl, omega (arith, h, le))

found_at : (o : Settings) (now i k : ℕ) (ps : List Part) (p : Part) (d : Pass) → slice_get ps k ≡ Some p → due_pass o now (i + k) p ≡ Some d
    → Finds (first_pass o now i ps) (i + k)
found_at o now i k [] p d there due = absurd (none-some p there)
found_at o now i zero (x ∷ ps) p d there due =
    let same : x ≡ p = same_Some x p there in
    let at : i ≡ i + 0 = omega arith in
    let here : due_pass o now i x ≡ Some d = (λ k. due_pass o now (at k) (same k)) ∙ due in
    let of_it : d.frame.partition ≡ i = subst (λ (r : Option Pass). IfSome r (λ q. q.frame.partition ≡ i)) here (due_of o now i x) in
    (d, (λ k. option_or (here k) (first_pass o now (i + 1) ps)), omega (arith, of_it))
found_at o now i (suc k) (x ∷ ps) p d there due =
    let at : (i + 1) + k ≡ i + suc k = omega arith in
    let later = found_at o now (i + 1) k ps p d there (ap (λ (n : ℕ). due_pass o now n p) at ∙ due) in
    or_rest i (i + suc k) (due_pass o now i x) (first_pass o now (i + 1) ps) (omega arith) (due_of o now i x)
    (subst (λ (n : ℕ). Finds (first_pass o now (i + 1) ps) n) at later)

get_drop : (n k : ℕ) (ps : List Part) → slice_get (drop n ps) k ≡ slice_get ps (n + k)
get_drop zero k ps =
    let e : k ≡ 0 + k = omega arith in
    ap (slice_get ps) e
get_drop (suc n) k [] = refl
get_drop (suc n) k (p ∷ ps) =
    let e : suc (n + k) ≡ suc n + k = omega arith in
    get_drop n k ps ∙ ap (slice_get (p ∷ ps)) e

-- ---- turns

abbrev IsNearer : (n turn i j : ℕ) → Type 0
IsNearer n turn i j = (j ≡ i) ⊎ (turns_before n (j + 1) i < turns_before n turn i)

turns_ahead : (n turn i : ℕ) → turn ≤ i → turns_before n turn i ≡ i - turn
turns_ahead n turn i le = by (nat_le turn i) refl where
  by : (b : Bool) → nat_le turn i ≡ b → cond b (i - turn) ((i + n) - min turn n) ≡ i - turn
  by true e = refl
  by false e = absurd (grind (arith, e, le))

turns_around : (n turn i : ℕ) → i < turn → turns_before n turn i ≡ (i + n) - min turn n
turns_around n turn i lt = by (nat_le turn i) refl where
  by : (b : Bool) → nat_le turn i ≡ b → cond b (i - turn) ((i + n) - min turn n) ≡ (i + n) - min turn n
  by true e = absurd (grind (arith, e, lt))
  by false e = refl

up_to : (j i : ℕ) → j ≤ i → (j ≡ i) ⊎ (j < i)
up_to j i le = by (nat_lt j i) refl where
  by : (b : Bool) → nat_lt j i ≡ b → (j ≡ i) ⊎ (j < i)
  by true e = inr (grind (arith, e))
  by false e = inl (grind (arith, e, le))

nearer_ahead : (n turn i j : ℕ) → turn ≤ j → j ≤ i → IsNearer n turn i j
nearer_ahead n turn i j from to = by (up_to j i to) where
  by : (j ≡ i) ⊎ (j < i) → IsNearer n turn i j
  by (inl e) = inl e
  by (inr lt) =
      let new = turns_ahead n (j + 1) i (omega (arith, lt)) in
      let old = turns_ahead n turn i (omega (arith, from, to)) in
      inr (omega (arith, new, old, lt, from))

nearer_around : (n turn i j : ℕ) → i < turn → j ≤ i → IsNearer n turn i j
nearer_around n turn i j wait to = by (up_to j i to) where
  by : (j ≡ i) ⊎ (j < i) → IsNearer n turn i j
  by (inl e) = inl e
  by (inr lt) =
      let new = turns_ahead n (j + 1) i (omega (arith, lt)) in
      let old = turns_around n turn i wait in
      inr (omega (arith, new, old, lt))

nearer_behind : (n turn i j : ℕ) → i < turn → turn ≤ j → j < n → IsNearer n turn i j
nearer_behind n turn i j wait from within =
    let new = turns_around n (j + 1) i (omega (arith, wait, from)) in
    let old = turns_around n turn i wait in
    inr (omega (arith, new, old, wait, from, within))

-- ---- the next pass

or_first : (r s : Option Pass) (f q : Pass) → r ≡ Some f → option_or r s ≡ Some q → f ≡ q
or_first r s f q is e = same_Some f q ((λ k. option_or (sym is k) s) ∙ e)

near_ahead : (v : Known) (now i : ℕ) (p : Part) (d q : Pass) → slice_get v.parts i ≡ Some p → due_pass v.settings now i p ≡ Some d
    → next_pass now v None ≡ Some q → v.turn ≤ i → IsNearer (length v.parts) v.turn i q.frame.partition
near_ahead v now i p d q there due given le =
    let at : v.turn + (i - v.turn) ≡ i = omega (arith, le) in
    let found = found_at v.settings now v.turn (i - v.turn) (drop v.turn v.parts) p d
    (get_drop v.turn (i - v.turn) v.parts ∙ (ap (slice_get v.parts) at ∙ there)) (ap (λ (n : ℕ). due_pass v.settings now n p) at ∙ due) in
    let bounds = subst (λ (r : Option Pass). IfSome r (IsBetween v.turn (v.turn + length (drop v.turn v.parts)))) found.1 (first_within v.settings now v.turn (drop v.turn v.parts)) in
    let same = or_first (first_pass v.settings now v.turn (drop v.turn v.parts)) (first_pass v.settings now 0 v.parts) found.0 q found.1 given in
    subst (λ (f : Pass). IsNearer (length v.parts) v.turn i f.frame.partition) same
    (nearer_ahead (length v.parts) v.turn i found.0.frame.partition bounds.0 (omega (arith, found.2, at)))

near_around : (v : Known) (now i : ℕ) (p : Part) (d q : Pass) → slice_get v.parts i ≡ Some p → due_pass v.settings now i p ≡ Some d
    → next_pass now v None ≡ Some q → i < v.turn → IsNearer (length v.parts) v.turn i q.frame.partition
near_around v now i p d q there due given wait = by (first_pass v.settings now v.turn (drop v.turn v.parts)) refl where
  first : Option Pass
  first = first_pass v.settings now v.turn (drop v.turn v.parts)

  by : (r : Option Pass) → first ≡ r → IsNearer (length v.parts) v.turn i q.frame.partition
  by None e =
      let at : 0 + i ≡ i = omega arith in
      let found = found_at v.settings now 0 i v.parts p d there (ap (λ (n : ℕ). due_pass v.settings now n p) at ∙ due) in
      let given_then : first_pass v.settings now 0 v.parts ≡ Some q = (λ k. option_or (sym e k) (first_pass v.settings now 0 v.parts)) ∙ given in
      let same = same_Some found.0 q (sym found.1 ∙ given_then) in
      subst (λ (f : Pass). IsNearer (length v.parts) v.turn i f.frame.partition) same
      (nearer_around (length v.parts) v.turn i found.0.frame.partition wait (omega (arith, found.2)))
  by (Some f) e =
      let bounds = subst (λ (r : Option Pass). IfSome r (IsBetween v.turn (v.turn + length (drop v.turn v.parts)))) e (first_within v.settings now v.turn (drop v.turn v.parts)) in
      let same = or_first first (first_pass v.settings now 0 v.parts) f q e given in
      let within = subst (λ (r : Option Pass). IfSome r (λ q. q.frame.partition < length v.parts)) given (next_within now v None) in
      nearer_behind (length v.parts) v.turn i q.frame.partition wait (subst (λ (g : Pass). v.turn ≤ g.frame.partition) same bounds.0) within

turned : (v : Known) (now i : ℕ) (p : Part) (d q : Pass) (r : Option Pass) → slice_get v.parts i ≡ Some p → due_pass v.settings now i p ≡ Some d
    → next_pass now v r ≡ Some q → IsNearer (length v.parts) v.turn i q.frame.partition
turned v now i p d q (Some u) there due given = absurd (none-some q given)
turned v now i p d q None there due given = by (nat_le v.turn i) refl where
  by : (b : Bool) → nat_le v.turn i ≡ b → IsNearer (length v.parts) v.turn i q.frame.partition
  by true e = near_ahead v now i p d q there due given (grind (arith, e))
  by false e = near_around v now i p d q there due given (grind (arith, e))

pub has_its_turn : (v : Known) (now i : ℕ) (p : Part) (d q : Pass) → slice_get v.parts i ≡ Some p → due_pass v.settings now i p ≡ Some d
    → next_pass now v v.pass ≡ Some q → IsNearer (length v.parts) v.turn i q.frame.partition
has_its_turn v now i p d q there due given = turned v now i p d q v.pass there due given
