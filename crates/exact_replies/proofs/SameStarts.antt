-- New brokers of two configurations hold the same, where these ask for the same.
use Rattle.std.proofs.Common.{◌≡◌, ℕ, ℤ, pos, negsuc, List, [], ◌∷◌, Option, Some, None, refl, sym, ap, ◌∙◌}
use Rattle.std.specs.Prelude.{bytes_eq, replicate}
use Rattle.std.specs.List.{find}
use Rattle.std.specs.Option.{option_map, option_or, option_and_then}
use Rattle.std.proofs.lemmas.List.Folds.{find-append}
use Rattle.content.specs.Content.{Content, empty}
use Rattle.broker_state.specs.State.{TopicConfig, ConfigValue, Topic, group_topic, all_topics, new_topic, new_state, partition_of, partition_at}
use Rattle.broker_state.proofs.NewStates.{find_map}
use Rattle.exact_replies.specs.SameHeld.{HoldTheSame, AskForTheSame, partitions_named}

-- a partition of a topic that has so many, all of them empty
abbrev empty_part : ℤ → ℕ → Option Content
empty_part p n = partition_of p (record { name = []; partitions = replicate n empty })

part_of_new : (p : ℤ) (o : Option TopicConfig) → option_and_then (partition_of p) (option_map new_topic o) ≡ option_and_then (empty_part p) (option_map (λ t. t.partitions) o)
part_of_new p None = refl
part_of_new (pos n) (Some t) = refl
part_of_new (negsuc n) (Some t) = refl

counts_of : (a b : Option TopicConfig) → option_map (λ (t : TopicConfig). t.partitions) (option_or a b) ≡ option_or (option_map (λ (t : TopicConfig). t.partitions) a) (option_map (λ (t : TopicConfig). t.partitions) b)
counts_of None b = refl
counts_of (Some t) b = refl

-- the broker's own topic
abbrev own : List TopicConfig
own = record { name = group_topic; partitions = 1 } ∷ []

new_part : (g : ConfigValue) (name : List ℕ) (p : ℤ) → partition_at (new_state g) name p ≡ option_and_then (empty_part p) (option_or (partitions_named g.topics name) (partitions_named own name))
new_part g name p =
    let named = λ (t : TopicConfig). bytes_eq t.name name in
    ap (option_and_then (partition_of p)) (find_map new_topic (λ (t : Topic). bytes_eq t.name name) (all_topics g))
    ∙ part_of_new p (find named (all_topics g))
    ∙ ap (λ (o : Option TopicConfig). option_and_then (empty_part p) (option_map (λ (t : TopicConfig). t.partitions) o)) (find-append named g.topics own)
    ∙ ap (option_and_then (empty_part p)) (counts_of (find named g.topics) (find named own))

pub begin_alike : (g h : ConfigValue) → AskForTheSame g h → HoldTheSame (new_state g) (new_state h)
begin_alike g h same = record {
  role = same.role;
  next_producer = same.first_producer;
  contents = λ name p. new_part g name p ∙ (λ i. option_and_then (empty_part p) (option_or (same.topics name i) (partitions_named own name))) ∙ sym (new_part h name p);
}
