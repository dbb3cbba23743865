-- Which names are taken.
use Rattle.std.proofs.Common.{◌≡◌, ℕ, ◌+◌, ◌<◌, ◌≤◌, Bool, true, false, ◌||◌, Option, Some, None, List, [], ◌∷◌, ◌++◌, length, take, drop, get_or, refl, sym, ap, ◌∙◌}
use Rattle.std.specs.Prelude.{map, bytes_eq, is_some}
use Rattle.std.specs.Option.{option_or}
use Rattle.std.proofs.lemmas.List.{take_more, drop_more, drop_all, map-append}
use Rattle.std.specs.List.{fold, list_any}
use Rattle.broker_state.specs.State.{TopicConfig, group_topic}
use Rattle.broker_state.specs.declared.error.ConfigError.{ConfigError}
use Rattle.broker_state.specs.Configs.{topic_fault, topics_fault}
use Rattle.broker_state.specs.Taken.{names_taken}

or_moved : (a b c : Bool) → (a || (b || c)) ≡ ((b || a) || c)
or_moved true true c = refl
or_moved true false c = refl
or_moved false true c = refl
or_moved false false c = refl

or_none : (a b : Bool) → (a || (b || false)) ≡ (a || b)
or_none true b = refl
or_none false true = refl
or_none false false = refl

names_any : (n : List ℕ) (ts : List TopicConfig) (taken : List (List ℕ))
    → list_any (bytes_eq n) (fold (λ others t. t.name ∷ others) taken ts) ≡ (list_any (λ t. bytes_eq n t.name) ts || list_any (bytes_eq n) taken)
names_any n [] taken = refl
names_any n (t ∷ ts) taken = names_any n ts (t.name ∷ taken) ∙ or_moved (list_any (λ t. bytes_eq n t.name) ts) (bytes_eq n t.name) (list_any (bytes_eq n) taken)

any_map : {X Y : Type 0} (f : X → Y) (p : Y → Bool) (xs : List X) → list_any p (map f xs) ≡ list_any (λ x. p (f x)) xs
any_map f p [] = refl
any_map f p (x ∷ xs) = ap (λ (b : Bool). p (f x) || b) (any_map f p xs)

-- a name is taken by a topic, or it is the group topic's
taken : {X : Type 0} (f : X → TopicConfig) (xs : List X) (n : List ℕ)
    → list_any (bytes_eq n) (names_taken (map f xs)) ≡ (list_any (λ x. bytes_eq n (f x).name) xs || bytes_eq n group_topic)
taken f xs n =
    names_any n (map f xs) (group_topic ∷ [])
    ∙ or_none (list_any (λ t. bytes_eq n t.name) (map f xs)) (bytes_eq n group_topic)
    ∙ ap (λ (b : Bool). b || bytes_eq n group_topic) (any_map f (λ t. bytes_eq n t.name) xs)

pub taken_by_a_topic : {X : Type 0} (f : X → TopicConfig) (xs : List X) (n : List ℕ) (b : Bool) → b ≡ true
    → b ≡ list_any (λ x. bytes_eq n (f x).name) xs → b ≡ list_any (bytes_eq n) (names_taken (map f xs))
taken_by_a_topic f xs n b is e = is ∙ sym (taken f xs n ∙ ap (λ (a : Bool). a || bytes_eq n group_topic) (sym e ∙ is))

pub taken_by_no_topic : {X : Type 0} (f : X → TopicConfig) (xs : List X) (n : List ℕ) (a b : Bool) → a ≡ false
    → a ≡ list_any (λ x. bytes_eq n (f x).name) xs → b ≡ bytes_eq n group_topic → b ≡ list_any (bytes_eq n) (names_taken (map f xs))
taken_by_no_topic f xs n a b none e same = same ∙ sym (taken f xs n ∙ ap (λ (c : Bool). c || bytes_eq n group_topic) (sym e ∙ none))

-- ---- the first fault of topics, one after the other

one_name_more : (ts : List TopicConfig) (t : TopicConfig) (start : List (List ℕ)) → fold (λ others x. x.name ∷ others) start (ts ++ t ∷ []) ≡ t.name ∷ fold (λ others x. x.name ∷ others) start ts
one_name_more [] t start = refl
one_name_more (u ∷ us) t start = one_name_more us t (u.name ∷ start)

first_of : (first others : Option ConfigError) (b : Bool) → b ≡ is_some first → b ≡ true → option_or first others ≡ first
first_of (Some x) others b tells is = refl
first_of None others b tells is = absurd cc

others_of : (first others : Option ConfigError) (b : Bool) → b ≡ is_some first → b ≡ false → option_or first others ≡ others
others_of None others b tells is = refl
others_of (Some x) others b tells is = absurd cc

module _ {X : Type 0} (f : X → TopicConfig) (xs : List X) (i : ℕ) (all : Option ConfigError) (so_far : topics_fault (names_taken (map f (take i xs))) (map f (drop i xs)) ≡ all) where
  judged : (x : X) (first : Option ConfigError) → i < length xs → x ≡ get_or xs i x → first ≡ topic_fault (names_taken (map f (take i xs))) (f x)
      → option_or first (topics_fault ((f x).name ∷ names_taken (map f (take i xs))) (map f (drop (i + 1) xs))) ≡ all
  judged x first low is e =
      let before = names_taken (map f (take i xs)) in
      let rest = map f (drop (i + 1) xs) in
      ap (λ y. option_or y (topics_fault ((f x).name ∷ before) rest)) e
      ∙ ap (λ y. option_or (topic_fault before (f y)) (topics_fault ((f y).name ∷ before) rest)) is
      ∙ sym (ap (λ ys. topics_fault before (map f ys)) (drop_more xs i x low)) ∙ so_far

  pub fault_found : (x : X) (first : Option ConfigError) (b : Bool) → i < length xs → x ≡ get_or xs i x → first ≡ topic_fault (names_taken (map f (take i xs))) (f x) → b ≡ is_some first → b ≡ true → first ≡ all
  fault_found x first b low is e tells there = sym (first_of first _ b tells there) ∙ judged x first low is e

  pub next_judged : (x : X) (first : Option ConfigError) (b : Bool) → i < length xs → x ≡ get_or xs i x → first ≡ topic_fault (names_taken (map f (take i xs))) (f x) → b ≡ is_some first → b ≡ false
      → topics_fault (names_taken (map f (take (i + 1) xs))) (map f (drop (i + 1) xs)) ≡ all
  next_judged x first b low is e tells none =
      let more : names_taken (map f (take (i + 1) xs)) ≡ (f x).name ∷ names_taken (map f (take i xs)) =
      ap (λ ys. names_taken (map f ys)) (take_more xs i x low) ∙ ap names_taken (map-append f (take i xs) (get_or xs i x ∷ []))
      ∙ one_name_more (map f (take i xs)) (f (get_or xs i x)) (group_topic ∷ []) ∙ ap (λ y. (f y).name ∷ names_taken (map f (take i xs))) (sym is) in
      ap (λ taken. topics_fault taken (map f (drop (i + 1) xs))) more ∙ sym (others_of first _ b tells none) ∙ judged x first low is e

  pub none_found : length xs ≤ i → None ≡ all
  none_found over = sym (ap (λ ys. topics_fault (names_taken (map f (take i xs))) (map f ys)) (drop_all i xs over)) ∙ so_far
