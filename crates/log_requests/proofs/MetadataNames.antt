-- Names put into a set one after the other: each once, where it comes first.
use Rattle.std.proofs.Common.{◌≡◌, ℕ, ◌≤◌, arith, Bool, true, false, cond, List, [], ◌∷◌, ◌++◌, length, refl, sym, ap, ◌∙◌, append_assoc, append-nil}
use Rattle.std.specs.Prelude.{map, not, bytes_eq, ◌&&◌, ◌||◌}
use Rattle.std.specs.List.{filter, list_any}
use Rattle.std.proofs.lemmas.List.{map-append, length-map}
use Rattle.std.proofs.lemmas.Slice.Eq.{bytes_eq-Decides}
use Rattle.indexmap.specs.IndexSet.{insert_key}
use Rattle.log_requests.specs.Metadata.{each_once}
use Rattle.log_requests.specs.Metadata.NameSets.{Borrowed, borrowed_eq, is_in, others}

abbrev Names : Type 0
Names = List (List ℕ)

-- ---- filters

filter_twice : (p q : List ℕ → Bool) (xs : Names) → filter p (filter q xs) ≡ filter (λ x. p x && q x) xs
filter_twice p q [] = refl
filter_twice p q (x ∷ xs) = grind (arith, filter_twice p q xs)

filter_same : (p q : List ℕ → Bool) (xs : Names) → ((x : List ℕ) → p x ≡ q x) → filter p xs ≡ filter q xs
filter_same p q xs same = λ i. filter (λ x. same x i) xs

filter_all : (xs : Names) → filter (λ x. true) xs ≡ xs
filter_all [] = refl
filter_all (x ∷ xs) = ap (λ (ys : Names). x ∷ ys) (filter_all xs)

-- ---- one name more

pub same_name : (x y : List ℕ) → bytes_eq x y ≡ true → x ≡ y
same_name x y e = (bytes_eq-Decides x y).0 e

-- what a set has, whether it is asked by the name or by an equal one
in_by_equal : (names : Names) (name other : List ℕ) → is_in names name ≡ true → (not (is_in names other) && not (bytes_eq other name)) ≡ not (is_in names other)
in_by_equal names name other there = by (bytes_eq other name) refl
  where
    by : (b : Bool) → bytes_eq other name ≡ b → (not (is_in names other) && not b) ≡ not (is_in names other)
    by true e = let has : is_in names other ≡ true = ap (is_in names) (same_name other name e) ∙ there in grind (arith, has)
    by false e = grind (arith, e)

not_either : (a b : Bool) → (not a && not b) ≡ not (a || b)
not_either true b = refl
not_either false true = refl
not_either false false = refl

any_push : (p : List ℕ → Bool) (xs : Names) (x : List ℕ) → list_any p (xs ++ x ∷ []) ≡ (list_any p xs || p x)
any_push p [] x = grind arith
any_push p (y ∷ ys) x = grind (arith, any_push p ys x)

-- a name that is there already
repeated : (names more : Names) (name : List ℕ) → is_in names name ≡ true → names ++ others names (each_once (name ∷ more)) ≡ names ++ others names (each_once more)
repeated names more name there =
    let rest = filter (λ other. not (bytes_eq other name)) (each_once more) in
    let drops : others names (name ∷ rest) ≡ others names rest = grind (arith, there) in
    ap (λ (xs : Names). names ++ xs) (drops ∙ filter_twice (λ x. not (is_in names x)) (λ x. not (bytes_eq x name)) (each_once more)
    ∙ filter_same (λ x. not (is_in names x) && not (bytes_eq x name)) (λ x. not (is_in names x)) (each_once more) (λ x. in_by_equal names name x there))

-- a new one
added : (names more : Names) (name : List ℕ) → is_in names name ≡ false → names ++ others names (each_once (name ∷ more)) ≡ (names ++ name ∷ []) ++ others (names ++ name ∷ []) (each_once more)
added names more name there =
    let rest = filter (λ other. not (bytes_eq other name)) (each_once more) in
    let keeps : others names (name ∷ rest) ≡ name ∷ others names rest = grind (arith, there) in
    let same : others names rest ≡ others (names ++ name ∷ []) (each_once more) =
    filter_twice (λ x. not (is_in names x)) (λ x. not (bytes_eq x name)) (each_once more)
    ∙ filter_same (λ x. not (is_in names x) && not (bytes_eq x name)) (λ x. not (is_in (names ++ name ∷ []) x)) (each_once more)
    (λ x. not_either (is_in names x) (bytes_eq x name) ∙ sym (ap not (any_push (bytes_eq x) names name))) in
    ap (λ (xs : Names). names ++ xs) (keeps ∙ ap (λ (xs : Names). name ∷ xs) same) ∙ sym (append_assoc names (name ∷ []) (others (names ++ name ∷ []) (each_once more)))

-- ---- the loop

abbrev now : List Borrowed → Names
now keys = map (λ name. name.now) keys

asked_in : (keys : List Borrowed) (name : Borrowed) → list_any (borrowed_eq name) keys ≡ is_in (now keys) name.now
asked_in [] name = refl
asked_in (k ∷ ks) name = ap (λ (b : Bool). borrowed_eq name k || b) (asked_in ks name)

-- what is in the set and what is left give all names, each once
pub one_inserted : (keys new : List Borrowed) (name : Borrowed) (left more all : Names) → left ≡ name.now ∷ more → new ≡ insert_key borrowed_eq keys name
    → now keys ++ others (now keys) (each_once left) ≡ each_once all → now new ++ others (now new) (each_once more) ≡ each_once all
one_inserted keys new name left more all first e so_far =
    let before : now keys ++ others (now keys) (each_once (name.now ∷ more)) ≡ each_once all = ap (λ (xs : Names). now keys ++ others (now keys) (each_once xs)) (sym first) ∙ so_far in
    by (list_any (borrowed_eq name) keys) (sym (asked_in keys name)) e before
  where
    by : (b : Bool) → is_in (now keys) name.now ≡ b → new ≡ cond b keys (keys ++ name ∷ [])
        → now keys ++ others (now keys) (each_once (name.now ∷ more)) ≡ each_once all → now new ++ others (now new) (each_once more) ≡ each_once all
    by true there is h = ap (λ (ks : List Borrowed). now ks ++ others (now ks) (each_once more)) is ∙ sym (repeated (now keys) more name.now there) ∙ h
    by false there is h =
        let pushed : now new ≡ now keys ++ name.now ∷ [] = ap now is ∙ map-append (λ (x : Borrowed). x.now) keys (name ∷ []) in
        ap (λ (xs : Names). xs ++ others xs (each_once more)) pushed ∙ sym (added (now keys) more name.now there) ∙ h

pub none_inserted : (keys : List Borrowed) (left all : Names) → keys ≡ [] → left ≡ all → now keys ++ others (now keys) (each_once left) ≡ each_once all
none_inserted keys left all none e =
    ap (λ (ks : List Borrowed). now ks ++ others (now ks) (each_once left)) none ∙ filter_all (each_once left) ∙ ap each_once e

pub all_inserted : (keys : List Borrowed) (left all : Names) → left ≡ [] → now keys ++ others (now keys) (each_once left) ≡ each_once all → now keys ≡ each_once all
all_inserted keys left all none so_far = sym (append-nil (now keys)) ∙ sym (ap (λ (xs : Names). now keys ++ others (now keys) (each_once xs)) none) ∙ so_far

-- ---- how many they are

pub fewer : (p : List ℕ → Bool) (xs : Names) → length (filter p xs) ≤ length xs
fewer p [] = omega arith
fewer p (x ∷ xs) = grind (arith, fewer p xs)

pub no_more : (xs : Names) → length (each_once xs) ≤ length xs
no_more [] = omega arith
no_more (x ∷ xs) = omega (arith, no_more xs, fewer (λ other. not (bytes_eq other x)) (each_once xs))

-- so a set has at most as many names as are put into it
pub set_fits : (keys : List Borrowed) (all : Names) (n : ℕ) → now keys ≡ each_once all → length all ≤ n → length keys ≤ n
set_fits keys all n is most =
    let same : length (now keys) ≡ length (each_once all) = ap length is in
    omega (arith, most, same, no_more all, length-map keys (λ name. name.now))
