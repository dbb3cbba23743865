-- Each broker has the partition in which groups keep their offsets: the topic comes last among those of its configuration,
-- and each topic has a partition.
use Rattle.std.proofs.Common.{◌≡◌, ◌≤◌, Bool, true, false, cond, pos, List, [], ◌∷◌, ◌++◌, length, Option, Some, None, refl, sym, ap, subst, ◌∙◌, arith}
use Rattle.std.specs.Prelude.{map, is_some, slice_get, bytes_eq}
use Rattle.std.specs.List.{find, AllByRecursion}
use Rattle.std.specs.Option.{option_map, option_and_then}
use Rattle.content.specs.Content.{Content}
use Rattle.broker_state.specs.State.{TopicConfig, Topic, State, group_topic, topic_of, partition_of, partition_at, is_known}
use Rattle.broker_state.specs.Sound.{shape_of, IsSound}
use Rattle.broker_state.proofs.NewStates.{find_map}
use Rattle.broker_state.proofs.Shapes.{IsSmallTopic, small_config}
use Rattle.broker_state.proofs.SoundStates.{found_has}

abbrev is_groups : TopicConfig → Bool
is_groups t = bytes_eq t.name group_topic

abbrev HasPartition : Topic → Type 0
HasPartition t = 1 ≤ length t.partitions

have_partitions : (ts : List Topic) → AllByRecursion IsSmallTopic (map shape_of ts) → AllByRecursion HasPartition ts
have_partitions [] all = tt
have_partitions (t ∷ ts) all = (all.0.some, have_partitions ts all.1)

found_last : (ts : List TopicConfig) → is_some (find is_groups (ts ++ record { name = group_topic; partitions = 1 } ∷ [])) ≡ true
found_last [] = refl
found_last (t ∷ ts) = by (is_groups t) (found_last ts)
  where
    by : (b : Bool) → is_some (find is_groups (ts ++ record { name = group_topic; partitions = 1 } ∷ [])) ≡ true
        → is_some (cond b (Some t) (find is_groups (ts ++ record { name = group_topic; partitions = 1 } ∷ []))) ≡ true
    by true rest = refl
    by false rest = rest

first_there : (cs : List Content) → 1 ≤ length cs → is_some (slice_get cs 0) ≡ true
first_there [] some = absurd (omega (arith, some))
first_there (c ∷ cs) some = refl

pub group_known : (s : State) → IsSound s → is_known s group_topic (pos 0) ≡ true
group_known s sound = by (topic_of s group_topic) refl
  where
    shown : is_some (option_map shape_of (topic_of s group_topic)) ≡ true
    shown = ap is_some (sym (find_map shape_of is_groups s.topics) ∙ ap (find is_groups) sound.topics) ∙ found_last s.config.topics

    by : (o : Option Topic) → topic_of s group_topic ≡ o → is_some (option_and_then (partition_of (pos 0)) o) ≡ true
    by None e = absurd (let same : false ≡ true = sym (ap (λ o. is_some (option_map shape_of o)) e) ∙ shown in cc)
    by (Some t) e = first_there t.partitions (found_has HasPartition _ s.topics t (have_partitions s.topics (subst (AllByRecursion IsSmallTopic) (sym sound.topics) (small_config s.config sound.config.valid).topics)) e)

pub group_is_there : (s : State) → IsSound s → partition_at s group_topic (pos 0) ≡ None → ⊥
group_is_there s sound none =
    let same : false ≡ true = sym (ap is_some none) ∙ group_known s sound in
    absurd cc
