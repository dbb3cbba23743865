-- The copy at a place.
use Rattle.std.proofs.Common.{◌≡◌, ◌≤◌, List, length, Option, Some, None, refl, sym, ap, ◌∙◌}
use Rattle.std.specs.Prelude.{slice_get, map}
use Rattle.std.specs.Option.{option_and_then, option_map}
use Rattle.std.proofs.lemmas.Option.{slice_get-map, slice_get_past}
use Rattle.broker_state.specs.declared.place.Place.{Place}
use Rattle.broker_state.specs.State.{Topic, State}
use Rattle.broker_state.specs.Partitions.{PartitionValue}
use Rattle.broker_state.specs.Parts.{TopicParts, topic_contents}
use Rattle.snapshot_drafts.specs.Drafts.{content_in}

-- what a broker has at a place, by the topic there
pub by_topic : (s : State) (ts : List TopicParts) (place : Place) (o : Option TopicParts) → map topic_contents ts ≡ s.topics → slice_get ts place.topic ≡ o
    → content_in s place ≡ option_and_then (λ (t : TopicParts). slice_get (topic_contents t).partitions place.partition) o
by_topic s ts place o are at =
    ap (option_and_then (λ l. slice_get l place.partition)) (slice_get-map (λ (t : Topic). t.partitions) s.topics place.topic ∙ ap (option_map (λ (t : Topic). t.partitions)) here) ∙ by o
  where
    here : slice_get s.topics place.topic ≡ option_map topic_contents o
    here = ap (λ (l : List Topic). slice_get l place.topic) (sym are) ∙ slice_get-map topic_contents ts place.topic ∙ ap (option_map topic_contents) at

    by : (o : Option TopicParts) → option_and_then (λ l. slice_get l place.partition) (option_map (λ (t : Topic). t.partitions) (option_map topic_contents o)) ≡ option_and_then (λ (t : TopicParts). slice_get (topic_contents t).partitions place.partition) o
    by None = refl
    by (Some t) = refl

-- a topic has nothing behind its last partition
pub no_partition : (t : TopicParts) (place : Place) → length t.partitions ≤ place.partition → slice_get (topic_contents t).partitions place.partition ≡ None
no_partition t place most = slice_get-map (λ (p : PartitionValue). p.content) t.partitions place.partition ∙ ap (option_map (λ (p : PartitionValue). p.content)) (slice_get_past t.partitions place.partition most)
