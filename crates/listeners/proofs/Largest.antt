-- The address for which most is kept, as a walk over all of them finds it.
use Rattle.std.proofs.Common.{◌≡◌, ℕ, ◌<◌, ◌≤◌, arith, Bool, true, false, cond, List, [], ◌∷◌, Option, Some, None, MatchOption, IfNone, IfSome, IsSome, sym, ap, subst, refl, ◌∙◌}
use Rattle.std.specs.Cmp.{IsEquivalence}
use Rattle.std.specs.List.{IsDistinct}
use Rattle.std.specs.Map.{keys_of, lookup}
use Rattle.std.proofs.lemmas.Map.{lookup-none}
use Rattle.std.proofs.lemmas.Map.Entries.{none_past_head}
use Rattle.std.proofs.lemmas.Map.Keys.{IsDistinct-tail}
use Rattle.listeners.specs.declared.addresses.Share.{Share}
use Rattle.listeners.specs.Addresses.{kept_of, share_at}

module _ {K : Type 0} {eq : K → K → Bool} (laws : IsEquivalence eq) (all : List (K × Share)) where
  -- who isn't left has at most so much, who is left has what stands there
  abbrev Each : ℕ → List (K × Share) → K → Type 0
  Each most left k = MatchOption (share_at eq left k) (kept_of (share_at eq all k) ≤ most) (λ s. share_at eq all k ≡ Some s)

  abbrev Found : Option K → ℕ → List (K × Share) → Type 0
  Found largest most left = MatchOption largest ((most ≡ 0) × ((k : K) → share_at eq all k ≡ share_at eq left k)) (λ a. (s : Share) × (share_at eq all a ≡ Some s) × (s.kept ≡ most))

  -- these are left, and of the others this one has the most
  pub record Walking (largest : Option K) (most : ℕ) (left : List (K × Share)) : Type 0 where
    pub distinct : IsDistinct eq (keys_of left)
    pub each : (k : K) → Each most left k
    pub found : Found largest most left

  pub begins : (left : List (K × Share)) → left ≡ all → IsDistinct eq (keys_of all) → Walking None 0 left
  begins left is distinct = subst (Walking None 0) (sym is) (record { distinct = distinct; each = λ k. each k (share_at eq all k) refl; found = (refl, λ k. refl) }) where
    each : (k : K) (o : Option Share) → share_at eq all k ≡ o → MatchOption o (kept_of (share_at eq all k) ≤ 0) (λ s. share_at eq all k ≡ Some s)
    each k None is = subst (λ (o : Option Share). kept_of o ≤ 0) (sym is) (omega (arith))
    each k (Some s) is = is

  module _ (largest : Option K) (most : ℕ) (a : K) (s : Share) (left rest : List (K × Share)) (is : left ≡ (a, s) ∷ rest) (walking : Walking largest most left) where
    distinct : IsDistinct eq (keys_of ((a, s) ∷ rest))
    distinct = subst (λ (l : List (K × Share)). IsDistinct eq (keys_of l)) is walking.distinct

    before : (k : K) (b : Bool) → eq k a ≡ b → MatchOption (cond b (Some s) (share_at eq rest k)) (kept_of (share_at eq all k) ≤ most) (λ t. share_at eq all k ≡ Some t)
    before k b same = subst (λ (o : Option Share). MatchOption o (kept_of (share_at eq all k) ≤ most) (λ t. share_at eq all k ≡ Some t))
        (ap (lookup (eq k)) is ∙ ap (λ (t : Bool). cond t (Some s) (share_at eq rest k)) same) (walking.each k)

    nowhere : (k : K) → eq k a ≡ true → share_at eq rest k ≡ None
    nowhere k same = lookup-none (eq k) rest (none_past_head laws k (a, s) rest distinct same)

    -- once this entry has passed, where so much is what the most have
    each : (more : ℕ) → most ≤ more → s.kept ≤ more → (k : K) (b : Bool) → eq k a ≡ b → Each more rest k
    each more above within k true same = subst (λ (o : Option Share). MatchOption o (kept_of (share_at eq all k) ≤ more) (λ t. share_at eq all k ≡ Some t)) (sym (nowhere k same))
        (subst (λ (o : Option Share). kept_of o ≤ more) (sym (before k true same)) within)
    each more above within k false same = further (share_at eq rest k) (before k false same) where
      further : (o : Option Share) → MatchOption o (kept_of (share_at eq all k) ≤ most) (λ t. share_at eq all k ≡ Some t) → MatchOption o (kept_of (share_at eq all k) ≤ more) (λ t. share_at eq all k ≡ Some t)
      further None less = omega (arith, less, above)
      further (Some t) there = there

    pub is_largest : most ≤ s.kept → Walking (Some a) s.kept rest
    is_largest above = record {
      distinct = IsDistinct-tail eq a (keys_of rest) distinct;
      each = λ k. each s.kept above (omega (arith)) k (eq k a) refl;
      found = (s, before a true (laws.refl a), refl);
    }

    pub is_less : s.kept < most → Walking largest most rest
    is_less less = record {
      distinct = IsDistinct-tail eq a (keys_of rest) distinct;
      each = λ k. each most (omega (arith)) (omega (arith, less)) k (eq k a) refl;
      found = found largest walking.found;
    } where
      found : (o : Option K) → Found o most left → Found o most rest
      found None none = absurd (omega (arith, less, none.0))
      found (Some b) there = there

  -- ---- where none is left

  module _ (largest : Option K) (most : ℕ) (left : List (K × Share)) (is : left ≡ []) (walking : Walking largest most left) where
    within : (k : K) → kept_of (share_at eq all k) ≤ most
    within k = subst (λ (l : List (K × Share)). Each most l k) is (walking.each k)

    pub is_there : IfSome largest (λ a. IsSome (share_at eq all a))
    is_there = there largest walking.found where
      there : (o : Option K) → Found o most left → IfSome o (λ a. IsSome (share_at eq all a))
      there None none = tt
      there (Some a) found = subst IsSome (sym found.1) refl

    pub has_most : IfSome largest (λ a. (k : K) → kept_of (share_at eq all k) ≤ kept_of (share_at eq all a))
    has_most = there largest walking.found where
      there : (o : Option K) → Found o most left → IfSome o (λ a. (k : K) → kept_of (share_at eq all k) ≤ kept_of (share_at eq all a))
      there None none = tt
      there (Some a) found = λ k. subst (λ (n : ℕ). kept_of (share_at eq all k) ≤ n) (sym (ap kept_of found.1 ∙ found.2)) (within k)

    pub has_none : IfNone largest ((k : K) → share_at eq all k ≡ None)
    has_none = there largest walking.found where
      there : (o : Option K) → Found o most left → IfNone o ((k : K) → share_at eq all k ≡ None)
      there None none = λ k. none.1 k ∙ ap (lookup (eq k)) is
      there (Some a) found = tt
