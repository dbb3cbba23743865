-- The topics of a new broker.
use Rattle.std.proofs.Common.{◌≡◌, ℕ, ◌+◌, ◌<◌, ◌≤◌, List, [], ◌∷◌, ◌++◌, length, take, get_or, refl, sym, ap, ◌∙◌}
use Rattle.std.specs.Prelude.{map, replicate}
use Rattle.std.proofs.lemmas.List.{take_all, take_more, map-append, replicate_more}
use Rattle.broker_state.specs.declared.config.Role.{Role}
use Rattle.broker_state.specs.State.{TopicConfig}
use Rattle.broker_state.specs.Partitions.{PartitionValue}
use Rattle.broker_state.specs.Parts.{TopicParts, new_parts}

pub one_partition_more : (n : ℕ) (one new : PartitionValue) (made next : List PartitionValue) → made ≡ replicate n one → new ≡ one → next ≡ made ++ new ∷ []
    → next ≡ replicate (n + 1) one
one_partition_more n one new made next so_far is e = e ∙ (λ i. so_far i ++ is i ∷ []) ∙ replicate_more n one

one_more : {X Y Z : Type 0} (f : X → Y) (g : Y → Z) (xs : List X) (y : Y) → map (λ x. g (f x)) xs ++ g y ∷ [] ≡ map g (map f xs ++ y ∷ [])
one_more f g [] y = refl
one_more {Z = Z} f g (x ∷ xs) y = ap (λ (zs : List Z). g (f x) ∷ zs) (one_more f g xs y)

pub all_made : {X : Type 0} (role : Role) (f : X → TopicConfig) (items all : List X) (i : ℕ) (made last : List TopicParts) (group : TopicParts) (own : TopicConfig)
    → made ≡ map (λ t. new_parts role (f t)) (take i items) → length items ≤ i → items ≡ all → group ≡ new_parts role own → last ≡ made ++ group ∷ []
    → last ≡ map (new_parts role) (map f all ++ own ∷ [])
all_made role f items all i made last group own so_far done same is e =
    let whole : take i items ≡ all = take_all i items done ∙ same in
    e ∙ (λ k. (so_far ∙ ap (map (λ t. new_parts role (f t))) whole) k ++ is k ∷ []) ∙ one_more f (new_parts role) all own

pub more_made : {X : Type 0} (role : Role) (f : X → TopicConfig) (items : List X) (i : ℕ) (item : X) (made next : List TopicParts) (new : TopicParts)
    → i < length items → item ≡ get_or items i item → made ≡ map (λ t. new_parts role (f t)) (take i items) → new ≡ new_parts role (f item) → next ≡ made ++ new ∷ []
    → next ≡ map (λ t. new_parts role (f t)) (take (i + 1) items)
more_made {X = X} role f items i item made next new there at so_far is e =
    let g : X → TopicParts = λ t. new_parts role (f t) in
    e ∙ (λ k. so_far k ++ (is ∙ ap g at) k ∷ []) ∙ sym (map-append g (take i items) (get_or items i item ∷ [])) ∙ ap (map g) (sym (take_more items i item there))
