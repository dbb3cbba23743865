-- What a map of owned keys has, by the keys' bytes; and what several maps have.
use Rattle.std.proofs.Common.{◌≡◌, ◌<◌, ℕ, zero, suc, ℤ, Bool, true, false, cond, List, [], ◌∷◌, ◌++◌, map, length, length-append, get_or, set, Option, Some, None, Result, Ok, Err, refl, sym, ap, ◌∙◌, true≢false, arith, length-set, get_or-set_same, get_or-set_other}
use Rattle.std.specs.Prelude.{nat_eq, bytes_eq, is_some, OnOk, OnErr, IfOk, if◌then◌else◌}
use Rattle.std.specs.Cmp.Lexicographic.{bytes_decides, nat_list_eq_equiv}
use Rattle.std.specs.Int.{int_max}
use Rattle.std.specs.Map.{lookup, KeepsOthers}
use Rattle.std.proofs.lemmas.List.{length-map, map-set, set-get_or, get_or-map}
use Rattle.newest_keys.specs.Newest.{raised, with_key}
use Rattle.newest_keys.specs.Shards.{Shards, shard_of, newest_in}

exact : (x y : List ℕ) → bytes_eq x y ≡ true → x ≡ y
exact x y same = (bytes_decides x y).0 same

turned : (x y : List ℕ) → bytes_eq x y ≡ bytes_eq y x
turned x y = nat_list_eq_equiv.symm x y

-- ---- one map

-- looking up bytes among the bytes of the keys
pub seen : {K : Type 0} (items : K → List ℕ) (key : List ℕ) (es : List (K × ℤ)) → lookup (bytes_eq key) (map (λ e. (items e.0, e.1)) es) ≡ lookup (λ k. bytes_eq key (items k)) es
seen items key [] = refl
seen items key (e ∷ es) = ap (cond (bytes_eq key (items e.0)) (Some e.1)) (seen items key es)

-- one key has an offset then, and the others what they had
keeps_others : {K : Type 0} (items : K → List ℕ) (eq : K → K → Bool) → ((x y : K) → eq x y ≡ bytes_eq (items x) (items y)) → (key q : List ℕ) (old new : List (K × ℤ)) → bytes_eq key q ≡ false
    → KeepsOthers eq (λ k. bytes_eq key (items k)) old new → lookup (λ k. bytes_eq q (items k)) new ≡ lookup (λ k. bytes_eq q (items k)) old
unfolding KeepsOthers
keeps_others items eq same key q old new other keeps =
    keeps (λ k. bytes_eq q (items k))
    (λ a b h. ap (λ (l : List ℕ). bytes_eq l (items b)) (exact q (items a) h) ∙ sym (same a b))
    (λ k h. ap (λ (l : List ℕ). bytes_eq q l) (sym (exact key (items k) h)) ∙ turned q key ∙ other)

pub put_one : {K : Type 0} (items : K → List ℕ) (eq : K → K → Bool) → ((x y : K) → eq x y ≡ bytes_eq (items x) (items y)) → (key : List ℕ) (offset : ℤ) (old new : List (K × ℤ))
    → lookup (λ k. bytes_eq key (items k)) new ≡ Some offset → KeepsOthers eq (λ k. bytes_eq key (items k)) old new
    → (q : List ℕ) → lookup (bytes_eq q) (map (λ e. (items e.0, e.1)) new) ≡ (if bytes_eq key q then Some offset else lookup (bytes_eq q) (map (λ e. (items e.0, e.1)) old))
put_one items eq same key offset old new put keeps q = seen items q new ∙ by (bytes_eq key q) refl
  where
    by : (b : Bool) → bytes_eq key q ≡ b → lookup (λ k. bytes_eq q (items k)) new ≡ (if b then Some offset else lookup (bytes_eq q) (map (λ e. (items e.0, e.1)) old))
    by true e = ap (λ (x : List ℕ). lookup (λ k. bytes_eq x (items k)) new) (sym (exact key q e)) ∙ put
    by false e = keeps_others items eq same key q old new e keeps ∙ sym (seen items q old)

-- a key that was there is raised
pub raise_one : {K : Type 0} (items : K → List ℕ) (eq : K → K → Bool) → ((x y : K) → eq x y ≡ bytes_eq (items x) (items y)) → (key : List ℕ) (was now offset : ℤ) (old new : List (K × ℤ))
    → lookup (λ k. bytes_eq key (items k)) old ≡ Some was → now ≡ int_max was offset → lookup (λ k. bytes_eq key (items k)) new ≡ Some now → KeepsOthers eq (λ k. bytes_eq key (items k)) old new
    → (q : List ℕ) → lookup (bytes_eq q) (map (λ e. (items e.0, e.1)) new) ≡ with_key (λ x. lookup (bytes_eq x) (map (λ e. (items e.0, e.1)) old)) key offset q
raise_one items eq same key was now offset old new before is put keeps q = put_one items eq same key now old new put keeps q ∙ by (bytes_eq key q) refl
  where
    abbrev_old : List ℕ → Option ℤ
    abbrev_old x = lookup (bytes_eq x) (map (λ e. (items e.0, e.1)) old)

    by : (b : Bool) → bytes_eq key q ≡ b → (if b then Some now else abbrev_old q) ≡ (if b then Some (raised (abbrev_old q) offset) else abbrev_old q)
    by false e = refl
    by true e = ap (λ (o : ℤ). Some o) is ∙ ap (λ (o : Option ℤ). Some (raised o offset)) (sym before ∙ sym (seen items key old) ∙ ap abbrev_old (exact key q e))

-- a key that wasn't there comes in
pub new_one : (key q : List ℕ) (offset : ℤ) (old new : List ℕ → Option ℤ) → old key ≡ None → new q ≡ (if bytes_eq key q then Some offset else old q) → new q ≡ with_key old key offset q
new_one key q offset old new none is = is ∙ by (bytes_eq key q) refl
  where
    by : (b : Bool) → bytes_eq key q ≡ b → (if b then Some offset else old q) ≡ (if b then Some (raised (old q) offset) else old q)
    by false e = refl
    by true e = ap (λ (o : Option ℤ). Some (raised o offset)) (sym none ∙ ap old (exact key q e))

pub none_of : {X : Type 0} (o : Option X) → is_some o ≡ false → o ≡ None
none_of None e = refl
none_of (Some x) e = absurd (true≢false e)

-- ---- several

pub none_yet : (shards : Shards) → ((i : ℕ) → get_or shards i [] ≡ []) → (key : List ℕ) → newest_in shards key ≡ None
none_yet shards empty key = ap (lookup (bytes_eq key)) (empty (shard_of (length shards) key))

pub one_more : {X : Type 0} (f : X → List (List ℕ × ℤ)) (xs : List X) (x : X) → f x ≡ [] → ((i : ℕ) → get_or (map f xs) i [] ≡ []) → (i : ℕ) → get_or (map f (xs ++ x ∷ [])) i [] ≡ []
one_more f [] x none empty zero = none
one_more f [] x none empty (suc i) = refl
one_more f (y ∷ xs) x none empty zero = empty 0
one_more f (y ∷ xs) x none empty (suc i) = one_more f xs x none (λ j. empty (suc j)) i

pub put_shard : (es : Shards) (i : ℕ) (e : List (List ℕ × ℤ)) (key q : List ℕ) (offset : ℤ) → i < length es → i ≡ shard_of (length es) key
    → ((k : List ℕ) → lookup (bytes_eq k) e ≡ with_key (λ x. lookup (bytes_eq x) (get_or es i [])) key offset k) → newest_in (set es i e) q ≡ with_key (newest_in es) key offset q
put_shard es i e key q offset lt at puts =
    ap (λ (n : ℕ). lookup (bytes_eq q) (get_or (set es i e) (shard_of n q) [])) (length-set es i e) ∙ by (nat_eq (shard_of (length es) q) i) refl
  where
    j : ℕ
    j = shard_of (length es) q

    is_same : (a b : ℕ) → nat_eq a b ≡ true → a ≡ b
    is_same a b e = grind (arith, e)

    apart : (a b : ℕ) → nat_eq a b ≡ false → a ≡ b → ⊥
    apart a b e same = grind (arith, e, same)

    other_key : nat_eq j i ≡ false → bytes_eq key q ≡ false
    other_key other = turned_key (bytes_eq key q) refl
      where
        turned_key : (b : Bool) → bytes_eq key q ≡ b → b ≡ false
        turned_key false f = refl
        turned_key true f = absurd (apart j i other (ap (shard_of (length es)) (sym (exact key q f)) ∙ sym at))

    by : (b : Bool) → nat_eq j i ≡ b → lookup (bytes_eq q) (get_or (set es i e) j []) ≡ with_key (newest_in es) key offset q
    by true same =
        let here : j ≡ i = is_same j i same in
        ap (λ (n : ℕ). lookup (bytes_eq q) (get_or (set es i e) n [])) here ∙ ap (lookup (bytes_eq q)) (get_or-set_same es i e [] lt) ∙ puts q
        ∙ ap (λ (n : ℕ). with_key (λ x. lookup (bytes_eq x) (get_or es n [])) key offset q) (sym here)
    by false other =
        ap (lookup (bytes_eq q)) (get_or-set_other es i j e [] (apart j i other))
        ∙ ap (λ (b : Bool). if b then Some (raised (lookup (bytes_eq q) (get_or es j [])) offset) else lookup (bytes_eq q) (get_or es j [])) (sym (other_key other))

pub put_in_one : {X : Type 0} (f : X → List (List ℕ × ℤ)) (xs : List X) (es : Shards) (count i : ℕ) (x y d : X) (key q : List ℕ) (stored offset : ℤ) → map f xs ≡ es → count ≡ length xs → i < count → i ≡ shard_of count key → x ≡ get_or xs i d
    → stored ≡ offset → ((k : List ℕ) → lookup (bytes_eq k) (f y) ≡ with_key (λ z. lookup (bytes_eq z) (f x)) key stored k) → newest_in (map f (set xs i y)) q ≡ with_key (newest_in es) key offset q
put_in_one f xs es count i x y d key q stored offset view counts lt at there same puts =
    ap (λ (l : Shards). newest_in l q) (map-set f xs i y ∙ ap (λ (l : Shards). set l i (f y)) view)
    ∙ put_shard es i (f y) key q offset (omega (arith, lt, all)) (at ∙ ap (λ (n : ℕ). shard_of n key) all)
    (λ k. puts k ∙ ap (λ (o : ℤ). with_key (λ z. lookup (bytes_eq z) (f x)) key o k) same
    ∙ ap (λ (m : List (List ℕ × ℤ)). with_key (λ z. lookup (bytes_eq z) m) key offset k) (ap f there ∙ sym (get_or-map f xs i d [] (omega (arith, lt, counts))) ∙ ap (λ (l : Shards). get_or l i []) view))
  where
    all : count ≡ length es
    all = counts ∙ sym (length-map xs f) ∙ ap length view

-- the shard of a key
pub at_shard : {X : Type 0} (f : X → List (List ℕ × ℤ)) (xs : List X) (es : Shards) (count i : ℕ) (x d : X) (key : List ℕ) → map f xs ≡ es → count ≡ length xs → i < count → i ≡ shard_of count key → x ≡ get_or xs i d
    → newest_in es key ≡ lookup (bytes_eq key) (f x)
at_shard f xs es count i x d key view counts lt at there =
    ap (λ (l : Shards). newest_in l key) (sym view) ∙ ap (λ (n : ℕ). lookup (bytes_eq key) (get_or (map f xs) (shard_of n key) [])) (length-map xs f ∙ sym counts)
    ∙ ap (λ (n : ℕ). lookup (bytes_eq key) (get_or (map f xs) n [])) (sym at) ∙ ap (lookup (bytes_eq key)) (get_or-map f xs i d [] (omega (arith, lt, counts)) ∙ ap f (sym there))

pub if_ok : {X E : Type 0} {P Q : X → Type 0} (r : Result X E) → ((x : X) → P x → Q x) → IfOk r P → IfOk r Q
if_ok (Ok x) f p = f x p
if_ok (Err e) f p = tt

pub some_pushed : {X : Type 0} (xs : List X) (x : X) (ys : List X) → ys ≡ xs ++ x ∷ [] → 0 < length ys
some_pushed xs x ys is = omega (arith, ap length is, length-append xs (x ∷ []))

pub all_pushed : {X : Type 0} (f : X → List (List ℕ × ℤ)) (xs : List X) (x : X) (ys : List X) → ys ≡ xs ++ x ∷ [] → f x ≡ [] → ((i : ℕ) → get_or (map f xs) i [] ≡ []) → (i : ℕ) → get_or (map f ys) i [] ≡ []
all_pushed {X} f xs x ys is none empty i = ap (λ (l : List X). get_or (map f l) i []) is ∙ one_more f xs x none empty i

pub on_ok : {X E : Type 0} {P Q : Type 0} (r : Result X E) → (P → Q) → OnOk r P → OnOk r Q
on_ok (Ok x) f p = f p
on_ok (Err e) f p = tt

pub on_err : {X E : Type 0} {P Q : Type 0} (r : Result X E) → (P → Q) → OnErr r P → OnErr r Q
on_err (Ok x) f p = tt
on_err (Err e) f p = f p

-- the shard of a key as it was
pub kept_one : {X : Type 0} (f : X → List (List ℕ × ℤ)) (xs : List X) (es : Shards) (count i : ℕ) (x y d : X) → map f xs ≡ es → count ≡ length xs → i < count → x ≡ get_or xs i d → f y ≡ f x → map f (set xs i y) ≡ es
kept_one f xs es count i x y d view counts lt there same =
    map-set f xs i y ∙ ap (λ (l : Shards). set l i (f y)) view
    ∙ ap (set es i) (same ∙ ap f there ∙ sym (get_or-map f xs i d [] (omega (arith, lt, counts))) ∙ ap (λ (l : Shards). get_or l i []) view) ∙ set-get_or es i []
