-- What is asked for beside what a configuration has.
use Rattle.std.proofs.Common.{◌≡◌, ℕ, ◌+◌, ◌<◌, Bool, ◌||◌, List, [], ◌∷◌, ◌++◌, length, Option, Some, None, get_or, refl, sym, ap, ◌∙◌}
use Rattle.std.specs.Prelude.{map, bytes_eq, take}
use Rattle.std.specs.List.{find, list_any, position}
use Rattle.std.specs.Option.{option_map, unwrap_or}
use Rattle.broker_state.specs.State.{TopicConfig}
use Rattle.broker_state.proofs.NewStates.{find_map}
use Rattle.broker_state.proofs.PlacedTopics.{finds_it, finds_none}
use Rattle.std.proofs.lemmas.List.{take_more, map-append}

any_map : {X Y : Type 0} (f : X → Y) (p : Y → Bool) (xs : List X) → list_any p (map f xs) ≡ list_any (λ x. p (f x)) xs
any_map f p [] = refl
any_map f p (x ∷ xs) = ap (λ (b : Bool). p (f x) || b) (any_map f p xs)

pub any_asked : {X Y : Type 0} (f : X → Y) (p : Y → Bool) (xs ys : List X) (b : Bool) → b ≡ list_any (λ x. p (f x)) ys → ys ≡ xs → b ≡ list_any p (map f xs)
any_asked f p xs ys b is same = is ∙ ap (list_any (λ x. p (f x))) same ∙ sym (any_map f p xs)

-- how many partitions are said of a name, by the index of the topic
module _ {X : Type 0} (f : X → TopicConfig) (xs ys : List X) (name : List ℕ) where
  pub said_there : (i : ℕ) (x : X) → Some i ≡ position (λ t. bytes_eq (f t).name name) ys → ys ≡ xs → x ≡ get_or xs i x
      → (f x).partitions ≡ unwrap_or (option_map (λ t. t.partitions) (find (λ t. bytes_eq t.name name) (map f xs))) 0
  said_there i x at same is =
      let there : find (λ t. bytes_eq (f t).name name) xs ≡ Some x =
      finds_it (λ t. bytes_eq (f t).name name) xs i x (at ∙ ap (position (λ t. bytes_eq (f t).name name)) same) is in
      sym (ap (λ (o : Option TopicConfig). unwrap_or (option_map (λ t. t.partitions) o) 0)
      (find_map f (λ (t : TopicConfig). bytes_eq t.name name) xs ∙ ap (option_map f) there))

  pub said_none : None ≡ position (λ t. bytes_eq (f t).name name) ys → ys ≡ xs
      → 0 ≡ unwrap_or (option_map (λ t. t.partitions) (find (λ t. bytes_eq t.name name) (map f xs))) 0
  said_none at same =
      let there : find (λ t. bytes_eq (f t).name name) xs ≡ None =
      finds_none (λ t. bytes_eq (f t).name name) xs (at ∙ ap (position (λ t. bytes_eq (f t).name name)) same) in
      sym (ap (λ (o : Option TopicConfig). unwrap_or (option_map (λ t. t.partitions) o) 0)
      (find_map f (λ (t : TopicConfig). bytes_eq t.name name) xs ∙ ap (option_map f) there))

-- topics that are made once more, one after the other
pub one_again : {X Y : Type 0} (f : X → Y) (xs again : List X) (i : ℕ) (x y d : X) → i < length xs → x ≡ get_or xs i d → map f again ≡ map f (take i xs) → f y ≡ f x
    → map f (again ++ y ∷ []) ≡ map f (take (i + 1) xs)
one_again f xs again i x y d within is before same =
    map-append f again (y ∷ [])
    ∙ (λ k. before k ++ (same ∙ ap f is) k ∷ [])
    ∙ sym (map-append f (take i xs) (get_or xs i d ∷ []))
    ∙ sym (ap (map f) (take_more xs i d within))
