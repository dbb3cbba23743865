-- One partition's content changes, and no other.
use Rattle.std.proofs.Common.{◌≡◌, ◌≢◌, ℕ, zero, suc, ℤ, pos, negsuc, Bool, true, false, cond, List, [], ◌∷◌, Option, Some, None, set, refl, sym, ap, subst, ◌∙◌, arith}
use Rattle.std.specs.Prelude.{is_some, slice_get, bytes_eq}
use Rattle.std.specs.List.{find}
use Rattle.std.specs.Option.{option_and_then}
use Rattle.std.proofs.lemmas.Slice.Eq.{bytes_eq-Decides}
use Rattle.content.specs.Content.{Content}
use Rattle.broker_state.specs.State.{Topic, State, partition_of, partition_at, is_known, with_partition, with_partition_of, with_content}

get_set : {X : Type 0} (xs : List X) (n : ℕ) (x : X) → is_some (slice_get xs n) ≡ true → slice_get (set xs n x) n ≡ Some x
get_set [] n x known = absurd (grind (arith, known))
get_set (y ∷ ys) zero x known = refl
get_set (y ∷ ys) (suc n) x known = get_set ys n x known

set_past : {X : Type 0} (xs : List X) (n : ℕ) (x : X) → is_some (slice_get xs n) ≡ false → set xs n x ≡ xs
set_past [] n x unknown = refl
set_past (y ∷ ys) zero x unknown = absurd (grind (arith, unknown))
set_past (y ∷ ys) (suc n) x unknown = ap (λ zs. y ∷ zs) (set_past ys n x unknown)

not_true : (b : Bool) → ¬ (b ≡ true) → b ≡ false
not_true true no_one = absurd (no_one refl)
not_true false no_one = refl

abbrev at : List ℕ → ℤ → List Topic → Option Content
at name p ts = option_and_then (partition_of p) (find (λ t. bytes_eq t.name name) ts)

abbrev if_named : (b : Bool) (p : ℤ) → Topic → Option Topic → Option Content
if_named b p t others = option_and_then (partition_of p) (cond b (Some t) others)

module _ (name : List ℕ) (n : ℕ) (c : Content) where
  by_same : (t : Topic) (ts : List Topic) (b : Bool) → bytes_eq t.name name ≡ b → (is_some (at name (pos n) ts) ≡ true → at name (pos n) (with_partition_of name (pos n) c ts) ≡ Some c)
      → is_some (if_named b (pos n) t (find (λ t. bytes_eq t.name name) ts)) ≡ true → at name (pos n) (cond b (with_partition (pos n) c t ∷ ts) (t ∷ with_partition_of name (pos n) c ts)) ≡ Some c
  by_same t ts true e rest known =
      subst (λ b. if_named b (pos n) (with_partition (pos n) c t) (find (λ t. bytes_eq t.name name) ts) ≡ Some c) (sym e) (get_set t.partitions n c known)
  by_same t ts false e rest known =
      subst (λ b. if_named b (pos n) t (find (λ t. bytes_eq t.name name) (with_partition_of name (pos n) c ts)) ≡ Some c) (sym e) (rest known)

  same : (ts : List Topic) → is_some (at name (pos n) ts) ≡ true → at name (pos n) (with_partition_of name (pos n) c ts) ≡ Some c
  same [] known = absurd (grind (arith, known))
  same (t ∷ ts) known = by_same t ts (bytes_eq t.name name) refl (same ts) known

no_partition : (o : Option Topic) (n : ℕ) → is_some (option_and_then (partition_of (negsuc n)) o) ≡ false
no_partition None n = refl
no_partition (Some t) n = refl

pub with_same : (s : State) (name : List ℕ) (p : ℤ) (c : Content) → is_known s name p ≡ true → partition_at (with_content s name p c) name p ≡ Some c
with_same s name (pos n) c known = same name n c s.topics known
with_same s name (negsuc n) c known =
    let none = no_partition (find (λ t. bytes_eq t.name name) s.topics) n in absurd (grind (arith, known, none))

past : (p : ℤ) (c : Content) (t : Topic) → is_some (partition_of p t) ≡ false → with_partition p c t ≡ t
past (pos n) c t unknown = ap (λ ps. record t { partitions = ps }) (set_past t.partitions n c unknown)
past (negsuc n) c t unknown = refl

module _ (name : List ℕ) (p : ℤ) (c : Content) where
  by_unknown : (t : Topic) (ts : List Topic) (b : Bool) → (is_some (at name p ts) ≡ false → with_partition_of name p c ts ≡ ts)
      → is_some (if_named b p t (find (λ t. bytes_eq t.name name) ts)) ≡ false → cond b (with_partition p c t ∷ ts) (t ∷ with_partition_of name p c ts) ≡ t ∷ ts
  by_unknown t ts true rest unknown = ap (λ (u : Topic). u ∷ ts) (past p c t unknown)
  by_unknown t ts false rest unknown = ap (λ us. t ∷ us) (rest unknown)

  unknown_stays : (ts : List Topic) → is_some (at name p ts) ≡ false → with_partition_of name p c ts ≡ ts
  unknown_stays [] unknown = refl
  unknown_stays (t ∷ ts) unknown = by_unknown t ts (bytes_eq t.name name) (unknown_stays ts) unknown

pub with_unknown : (s : State) (name : List ℕ) (p : ℤ) (c : Content) → is_known s name p ≡ false → with_content s name p c ≡ s
with_unknown s name p c unknown = ap (λ ts. record s { topics = ts }) (unknown_stays name p c s.topics unknown)

-- ---- every other place

get_other : {X : Type 0} (xs : List X) (m n : ℕ) (x : X) → m ≢ n → slice_get (set xs n x) m ≡ slice_get xs m
get_other [] m n x other = refl
get_other (y ∷ ys) zero zero x other = absurd (other refl)
get_other (y ∷ ys) zero (suc n) x other = refl
get_other (y ∷ ys) (suc m) zero x other = refl
get_other (y ∷ ys) (suc m) (suc n) x other = get_other ys m n x (λ e. other (ap suc e))

other_partition : (q p : ℤ) (c : Content) (t : Topic) → q ≢ p → partition_of q (with_partition p c t) ≡ partition_of q t
other_partition (pos m) (pos n) c t other = get_other t.partitions m n c (λ e. other (ap pos e))
other_partition (negsuc m) (pos n) c t other = refl
other_partition q (negsuc n) c t other = refl

same_name : (p : ℤ) (c : Content) (t : Topic) → (with_partition p c t).name ≡ t.name
same_name (pos n) c t = refl
same_name (negsuc n) c t = refl

other_in : (t : Topic) (q p : ℤ) (c : Content) (others : Option Topic) → q ≢ p → (b d : Bool) → b ≡ d → if_named b q (with_partition p c t) others ≡ if_named d q t others
other_in t q p c others other true true e = other_partition q p c t other
other_in t q p c others other false false e = refl
other_in t q p c others other true false e = absurd (grind (arith, e))
other_in t q p c others other false true e = absurd (grind (arith, e))

behind : (d : Bool) (q : ℤ) (t : Topic) (new old : Option Topic) → option_and_then (partition_of q) new ≡ option_and_then (partition_of q) old → if_named d q t new ≡ if_named d q t old
behind true q t new old rest = refl
behind false q t new old rest = rest

abbrev named_as : List ℕ → List Topic → Option Topic
named_as name ts = find (λ t. bytes_eq t.name name) ts

named_same : (p : ℤ) (c : Content) (t : Topic) (name' : List ℕ) → bytes_eq (with_partition p c t).name name' ≡ bytes_eq t.name name'
named_same p c t name' = ap (λ x. bytes_eq x name') (same_name p c t)

pub other_index : (ts : List Topic) (name name' : List ℕ) (q p : ℤ) (c : Content) → q ≢ p → at name' q (with_partition_of name p c ts) ≡ at name' q ts
other_index [] name name' q p c other = refl
other_index (t ∷ ts) name name' q p c other = by (bytes_eq t.name name) (other_index ts name name' q p c other)
  where
    by : (b : Bool) → at name' q (with_partition_of name p c ts) ≡ at name' q ts → at name' q (cond b (with_partition p c t ∷ ts) (t ∷ with_partition_of name p c ts)) ≡ at name' q (t ∷ ts)
    by true rest = other_in t q p c (named_as name' ts) other (bytes_eq (with_partition p c t).name name') (bytes_eq t.name name') (named_same p c t name')
    by false rest = behind (bytes_eq t.name name') q t (named_as name' (with_partition_of name p c ts)) (named_as name' ts) rest

-- a name is one of two names at most
one_name : (x name name' : List ℕ) → name' ≢ name → bytes_eq x name ≡ true → bytes_eq x name' ≡ false
one_name x name name' other e = not_true (bytes_eq x name') (λ e'. other (sym ((bytes_eq-Decides x name').0 e') ∙ (bytes_eq-Decides x name).0 e))

pub other_name : (ts : List Topic) (name name' : List ℕ) (q p : ℤ) (c : Content) → name' ≢ name → at name' q (with_partition_of name p c ts) ≡ at name' q ts
other_name [] name name' q p c other = refl
other_name (t ∷ ts) name name' q p c other = by (bytes_eq t.name name) refl (other_name ts name name' q p c other)
  where
    by : (b : Bool) → bytes_eq t.name name ≡ b → at name' q (with_partition_of name p c ts) ≡ at name' q ts → at name' q (cond b (with_partition p c t ∷ ts) (t ∷ with_partition_of name p c ts)) ≡ at name' q (t ∷ ts)
    by true e rest =
        let not_it = one_name t.name name name' other e in
        ap (λ d. if_named d q (with_partition p c t) (named_as name' ts)) (named_same p c t name' ∙ not_it) ∙ sym (ap (λ d. if_named d q t (named_as name' ts)) not_it)
    by false e rest = behind (bytes_eq t.name name') q t (named_as name' (with_partition_of name p c ts)) (named_as name' ts) rest
