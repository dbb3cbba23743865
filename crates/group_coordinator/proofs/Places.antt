-- What is found at its place.
use Rattle.std.proofs.Common.{◌≡◌, ℕ, zero, suc, ◌+◌, ◌<◌, ℤ, Bool, true, false, cond, not, nat_lt, List, [], ◌∷◌, ◌++◌, map, take, drop, length, get_or, set, refl, sym, ap, ◌∙◌, arith}
use Rattle.std.specs.Prelude.{Option, Some, None, ◌==◌, ◌||◌, if◌then◌else◌}
use Rattle.std.specs.List.{find, position, position_or_len}
use Rattle.std.specs.Option.{is_none}
use Rattle.std.proofs.lemmas.Option.{none-some, same_Some}
use Rattle.std.proofs.lemmas.List.Edits.{map_over_more}
use Rattle.group_coordinator.specs.declared.values.GroupError.{GroupError}
use Rattle.group_coordinator.specs.declared.values.GroupError.TheVariants.{UnknownMember}
use Rattle.group_coordinator.specs.Members.{Member, has_id}
use Rattle.group_coordinator.specs.Groups.{Group}
use Rattle.group_coordinator.specs.Coordinators.{Groups, is_named, group_named, fault_if, unknown_fault, generation_fault, member_of, commit_fault_at, commit_fault}

module _ {X : Type 0} where
  -- the first place, counted one by one
  found_place : (t : X → Bool) (xs : List X) → nat_lt (position_or_len t xs) (length xs) ≡ true → (d : X) → find t xs ≡ Some (get_or xs (position_or_len t xs) d)
  found_place t [] e d = absurd (grind (arith, e))
  found_place t (x ∷ xs) e d = by (t x) e (found_place t xs) where
    by : (b : Bool) → nat_lt (cond (not b) (1 + position_or_len t xs) 0) (length (x ∷ xs)) ≡ true
        → (nat_lt (position_or_len t xs) (length xs) ≡ true → (d : X) → find t xs ≡ Some (get_or xs (position_or_len t xs) d))
        → cond b (Some x) (find t xs) ≡ Some (get_or (x ∷ xs) (cond (not b) (1 + position_or_len t xs) 0) d)
    by true e r = refl
    by false e r =
        let next : suc (position_or_len t xs) ≡ 1 + position_or_len t xs = omega arith in
        r (grind (arith, e)) d ∙ (λ i. Some (get_or (x ∷ xs) (next i) d))

  none_place : (t : X → Bool) (xs : List X) → nat_lt (position_or_len t xs) (length xs) ≡ false → find t xs ≡ None
  none_place t [] e = refl
  none_place t (x ∷ xs) e = by (t x) e (none_place t xs) where
    by : (b : Bool) → nat_lt (cond (not b) (1 + position_or_len t xs) 0) (length (x ∷ xs)) ≡ false → (nat_lt (position_or_len t xs) (length xs) ≡ false → find t xs ≡ None) → cond b (Some x) (find t xs) ≡ None
    by true e r = absurd (grind (arith, e))
    by false e r = r (grind (arith, e))

  pub found_at : (t : X → Bool) (xs : List X) (i : ℕ) (x : X) → position t xs ≡ Some i → x ≡ get_or xs i x → find t xs ≡ Some x
  found_at t xs i x e is = by (nat_lt (position_or_len t xs) (length xs)) refl e where
    by : (b : Bool) → nat_lt (position_or_len t xs) (length xs) ≡ b → cond b (Some (position_or_len t xs)) None ≡ Some i → find t xs ≡ Some x
    by true f e = found_place t xs f x ∙ (λ k. Some (get_or xs (same_Some (position_or_len t xs) i e k) x)) ∙ (λ k. Some (sym is k))
    by false f e = absurd (none-some i e)

  pub within : (t : X → Bool) (xs : List X) (i : ℕ) → position t xs ≡ Some i → i < length xs
  within t xs i e = by (nat_lt (position_or_len t xs) (length xs)) refl e where
    by : (b : Bool) → nat_lt (position_or_len t xs) (length xs) ≡ b → cond b (Some (position_or_len t xs)) None ≡ Some i → i < length xs
    by true f e = let same = same_Some (position_or_len t xs) i e in grind (arith, f, same)
    by false f e = absurd (none-some i e)

  pub not_found : (t : X → Bool) (xs : List X) → position t xs ≡ None → find t xs ≡ None
  not_found t xs e = by (nat_lt (position_or_len t xs) (length xs)) refl e where
    by : (b : Bool) → nat_lt (position_or_len t xs) (length xs) ≡ b → cond b (Some (position_or_len t xs)) None ≡ None → find t xs ≡ None
    by true f e = absurd (none-some (position_or_len t xs) (sym e))
    by false f e = none_place t xs f

  -- a list whose elements are changed one by one
  pub changed_more : (f : X → X) (xs ys : List X) (i : ℕ) (x y : X) → i < length xs → ys ≡ map f (take i xs) ++ drop i xs → x ≡ get_or ys i x → y ≡ f (get_or ys i x)
      → set ys i y ≡ map f (take (i + 1) xs) ++ drop (i + 1) xs
  changed_more f xs ys i x y low e is made = (λ k. set ys i ((made ∙ ap f (sym is)) k)) ∙ map_over_more f xs ys i x low e is

same_default : {X : Type 0} (xs : List X) (i : ℕ) (d : X) → i < length xs → get_or xs i d ≡ get_or xs i (get_or xs i d)
same_default [] i d low = absurd (omega (arith, low))
same_default (x ∷ xs) zero d low = refl
same_default (x ∷ xs) (suc i) d low = same_default xs i d (omega (arith, low))

-- what stands at an index
pub same_at : {X : Type 0} (xs : List X) (i : ℕ) (x y : X) → i < length xs → x ≡ get_or xs i x → y ≡ get_or xs i y → x ≡ y
same_at [] i x y low a b = absurd (omega (arith, low))
same_at (z ∷ zs) zero x y low a b = a ∙ sym b
same_at (z ∷ zs) (suc i) x y low a b = same_at zs i x y (omega (arith, low)) a b

pub fault_none : (g : Group) (n : ℤ) (id : List ℕ) → position (has_id id) g.members ≡ None → Some UnknownMember ≡ generation_fault g n (member_of id g)
fault_none g n id e = λ i. generation_fault g n (sym (not_found (has_id id) g.members e) i)

-- the member at its place
pub fault_some : (g : Group) (n k : ℤ) (id : List ℕ) (i : ℕ) (r : Option GroupError) → k ≡ n → position (has_id id) g.members ≡ Some i
    → ((m : Member) → m ≡ get_or g.members i m → r ≡ generation_fault g k (Some m)) → r ≡ generation_fault g n (member_of id g)
fault_some g n k id i r same e w = by g.members refl (within (has_id id) g.members i e) where
  by : (ms : List Member) → g.members ≡ ms → i < length g.members → r ≡ generation_fault g n (member_of id g)
  by [] is low = absurd (omega (arith, low, ap length is))
  by (m ∷ ms) is low =
      let here = same_default g.members i m low in
      w (get_or g.members i m) here ∙ (λ j. generation_fault g (same j) (Some (get_or g.members i m))) ∙ (λ k. generation_fault g n (sym (found_at (has_id id) g.members i (get_or g.members i m) e here) k))

pub unknown_none : (g : Group) (id : List ℕ) → position (has_id id) g.members ≡ None → Some UnknownMember ≡ unknown_fault id (Some g)
unknown_none g id e = λ i. fault_if (is_none (sym (not_found (has_id id) g.members e) i)) UnknownMember

pub unknown_some : (g : Group) (id : List ℕ) (i : ℕ) → position (has_id id) g.members ≡ Some i → None ≡ unknown_fault id (Some g)
unknown_some g id i e = by g.members refl (within (has_id id) g.members i e) where
  by : (ms : List Member) → g.members ≡ ms → i < length g.members → None ≡ unknown_fault id (Some g)
  by [] is low = absurd (omega (arith, low, ap length is))
  by (m ∷ ms) is low = λ j. fault_if (is_none (sym (found_at (has_id id) g.members i (get_or g.members i m) e (same_default g.members i m low)) j)) UnknownMember

-- what is said of the group of a name, by whether it is there
pub at_none : {Y : Type 0} (f : Option Group → Y) (v : Groups) (name : List ℕ) → position (is_named name) v.groups ≡ None → f None ≡ f (group_named name v)
at_none f v name e = λ i. f (sym (not_found (is_named name) v.groups e) i)

pub at_some : {Y : Type 0} (f : Option Group → Y) (v : Groups) (name : List ℕ) (i : ℕ) (g : Group) → position (is_named name) v.groups ≡ Some i → g ≡ get_or v.groups i g → f (Some g) ≡ f (group_named name v)
at_some f v name i g e at = λ j. f (sym (found_at (is_named name) v.groups i g e at) j)

-- ---- commits

abbrev commit_faults : Bool → (n : ℤ) (id : List ℕ) → Option Group → Option GroupError
commit_faults b n id r = if b then None else commit_fault_at n id r

-- a commit that is left to the broker
pub commit_left : (v : Groups) (name : List ℕ) (n : ℤ) (id : List ℕ) → (0 == length name || v.settings.follows) ≡ true → None ≡ commit_fault name n id v
commit_left v name n id e = λ k. commit_faults (sym e k) n id (group_named name v)

-- a commit of a group without members
pub commit_none : (v : Groups) (name : List ℕ) (n j : ℤ) (id : List ℕ) (r : Option GroupError) → j ≡ n → (0 == length name || v.settings.follows) ≡ false → position (is_named name) v.groups ≡ None
    → r ≡ commit_fault_at j id None → r ≡ commit_fault name n id v
commit_none v name n j id r same e none is = is ∙ (λ k. commit_fault_at (same k) id None) ∙ (λ k. commit_faults (sym e k) n id (sym (not_found (is_named name) v.groups none) k))

-- a commit of a group that has some
pub commit_some : (v : Groups) (name : List ℕ) (n j : ℤ) (id : List ℕ) (i : ℕ) (g : Group) (r : Option GroupError) → j ≡ n → (0 == length name || v.settings.follows) ≡ false
    → position (is_named name) v.groups ≡ Some i → g ≡ get_or v.groups i g → r ≡ commit_fault_at j id (Some g) → r ≡ commit_fault name n id v
commit_some v name n j id i g r same e at there is = is ∙ (λ k. commit_fault_at (same k) id (Some g)) ∙ (λ k. commit_faults (sym e k) n id (sym (found_at (is_named name) v.groups i g at there) k))

-- a group that has a name, and a broker that follows none
pub served : (v : Groups) (name : List ℕ) → (0 == length name) ≡ false → v.settings.follows ≡ false → (0 == length name || v.settings.follows) ≡ false
served v name a b = λ k. a k || b k
