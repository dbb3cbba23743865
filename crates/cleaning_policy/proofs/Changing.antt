-- One partition of a list changes.
use Rattle.std.proofs.Common.{◌≡◌, ℕ, zero, suc, ◌+◌, ◌<◌, List, [], ◌∷◌, length, get_or, slice_set, sym, ap, subst, ◌∙◌, arith}
use Rattle.std.specs.Prelude.{Option, Some, None, IfSome}
use Rattle.cleaning_policy.specs.declared.values.Pass.{Pass}
use Rattle.cleaning_policy.specs.Partitions.{Part, begun_part, cleaned_part, given_up_part}
use Rattle.cleaning_policy.specs.Policies.{Known, changed_at, cleaned, given_up, behind_pass}

pub changed : {X : Type 0} (i : ℕ) (f : X → X) (xs : List X) (x y : X) → i < length xs → x ≡ get_or xs i x → y ≡ f x → slice_set xs i y ≡ changed_at i f xs
changed i f [] x y low is made = absurd (omega arith)
changed zero f (z ∷ xs) x y low is made = λ k. (made ∙ ap f is) k ∷ xs
changed (suc i) f (z ∷ xs) x y low is made = ap (λ zs. z ∷ zs) (changed i f xs x y (omega arith) is made)

-- a policy of which one partition changes
pub part_changed : (v : Known) (i : ℕ) (f : Part → Part) (x y : Part) → i < length v.parts → x ≡ get_or v.parts i x → y ≡ f x
    → (record v { parts = slice_set v.parts i y }) ≡ (record v { parts = changed_at i f v.parts })
part_changed v i f x y low is made = ap (λ (ps : List Part). record v { parts = ps }) (changed i f v.parts x y low is made)

-- the partition of a pass is there
pub is_there : (v : Known) (q : Pass) → IfSome v.pass (λ q. q.frame.partition < length v.parts) → v.pass ≡ Some q → q.frame.partition < length v.parts
is_there v q within is = subst (λ (r : Option Pass). IfSome r (λ q. q.frame.partition < length v.parts)) is within

pub is_cleaned : (now bytes : ℕ) (v : Known) (q : Pass) (x y : Part) → IfSome v.pass (λ q. q.frame.partition < length v.parts) → v.pass ≡ Some q
    → x ≡ get_or v.parts q.frame.partition x → y ≡ cleaned_part v.settings.keep_deletes now q bytes x
    → (record v { pass = None; parts = slice_set v.parts q.frame.partition y }) ≡ cleaned now bytes v v.pass
is_cleaned now bytes v q x y within is at made =
    ap (λ (ps : List Part). record v { pass = None; parts = ps })
    (changed q.frame.partition (cleaned_part v.settings.keep_deletes now q bytes) v.parts x y (is_there v q within is) at made)
    ∙ sym (ap (cleaned now bytes v) is)

pub is_given_up : (now : ℕ) (v : Known) (q : Pass) (x y : Part) → IfSome v.pass (λ q. q.frame.partition < length v.parts) → v.pass ≡ Some q
    → x ≡ get_or v.parts q.frame.partition x → y ≡ given_up_part now x
    → (record v { pass = None; parts = slice_set v.parts q.frame.partition y }) ≡ given_up now v v.pass
is_given_up now v q x y within is at made =
    ap (λ (ps : List Part). record v { pass = None; parts = ps })
    (changed q.frame.partition (given_up_part now) v.parts x y (is_there v q within is) at made)
    ∙ sym (ap (given_up now v) is)

pub is_begun : (now : ℕ) (v : Known) (r : Option Pass) (q : Pass) (x y : Part) → r ≡ Some q → q.frame.partition < length v.parts
    → x ≡ get_or v.parts q.frame.partition x → y ≡ begun_part now x
    → (record v { pass = Some q; turn = q.frame.partition + 1; parts = slice_set v.parts q.frame.partition y }) ≡ behind_pass now v r
is_begun now v r q x y is low at made =
    ap (λ (ps : List Part). record v { pass = Some q; turn = q.frame.partition + 1; parts = ps })
    (changed q.frame.partition (begun_part now) v.parts x y low at made)
    ∙ sym (ap (behind_pass now v) is)
