-- Whoever changes partitions by their names knows their contents by places.
use Rattle.std.proofs.Common.{◌≡◌, ◌<◌, ℕ, ℤ, pos, true, List, length, Option, Some, None, refl, sym, ap, ◌∙◌}
use Rattle.std.specs.Prelude.{slice_get, map, is_some, bytes_eq, get_or}
use Rattle.std.specs.Option.{option_and_then, option_map}
use Rattle.std.proofs.lemmas.Option.{slice_get-map, slice_get_read}
use Rattle.std.proofs.lemmas.List.Folds.{find_at}
use Rattle.content.specs.Content.{Content}
use Rattle.copy_images.specs.Images.{image_of}
use Rattle.broker_state.specs.declared.place.Place.{Place}
use Rattle.broker_state.specs.State.{Topic, State, topic_of, partition_of, partition_at}
use Rattle.broker_state.specs.Parts.{TopicParts, topic_contents}
use Rattle.broker_state.specs.Places.{IsPlaceOf}
use Rattle.broker_state.proofs.PlacedTopics.{first_at}
use Rattle.snapshots.specs.declared.writing.SnapshotId.{SnapshotId}
use Rattle.state_snapshots.specs.Snapshots.{state_head}
use Rattle.snapshot_drafts.specs.Parts.{DraftState, is_missing}
use Rattle.snapshot_drafts.specs.Drafts.{IsDraftOf, content_in, partition_images}
use Rattle.snapshot_drafts.proofs.Whole.{part_known}
use Rattle.snapshot_drafts.proofs.There.{part_is_there}

-- the content at a place, by the topic there
by_topic : (s : State) (place : Place) → content_in s place ≡ option_and_then (partition_of (pos place.partition)) (slice_get s.topics place.topic)
by_topic s place =
    ap (option_and_then (λ l. slice_get l place.partition)) (slice_get-map (λ (t : Topic). t.partitions) s.topics place.topic) ∙ by (slice_get s.topics place.topic)
  where
    by : (o : Option Topic) → option_and_then (λ l. slice_get l place.partition) (option_map (λ (t : Topic). t.partitions) o) ≡ option_and_then (partition_of (pos place.partition)) o
    by None = refl
    by (Some t) = refl

-- the place of the partition of a name and a number has its content
pub placed_content : (s : State) (name : List ℕ) (p : ℤ) (place : Place) → IsPlaceOf s name p place → content_in s place ≡ partition_at s name p
placed_content s name p place is =
    let test = λ (t : Topic). bytes_eq t.name name in
    let at : topic_of s name ≡ slice_get s.topics place.topic = find_at test s.topics ∙ ap (slice_get s.topics) (sym (first_at test s.topics place.topic is.topic).0) in
    by_topic s place ∙ (λ i. option_and_then (partition_of (sym is.partition i)) (sym at i))

-- so has that of a topic's index and a partition's
pub indexed_content : (s : State) (ts : List TopicParts) (place : Place) (t : TopicParts) (c : Content) → map topic_contents ts ≡ s.topics → place.topic < length ts → t ≡ get_or ts place.topic t → partition_of (pos place.partition) (topic_contents t) ≡ Some c
    → content_in s place ≡ Some c
indexed_content s ts place t c are low at is =
    let there : slice_get ts place.topic ≡ Some t = slice_get_read ts (length ts) place.topic t refl low at in
    let here : slice_get s.topics place.topic ≡ Some (topic_contents t) = ap (λ (l : List Topic). slice_get l place.topic) (sym are) ∙ slice_get-map topic_contents ts place.topic ∙ ap (option_map topic_contents) there in
    by_topic s place ∙ ap (option_and_then (partition_of (pos place.partition))) here ∙ is

-- a partition whose image is missing is one that the broker has
pub missing_is_there : {F : Type 0} (seen : F → Option (List ℕ)) (id : SnapshotId) (base : State) (d : DraftState F) (place : Place) → IsDraftOf seen id base d → is_missing d place ≡ true → is_some (content_in base place) ≡ true
missing_is_there seen id base d place is missing =
    sym (part_known (λ (t : Topic). t.partitions) image_of base.topics place)
    ∙ part_is_there (seen d.file) (length (state_head id base)) (map partition_images base.topics) d.topics place.topic place.partition is.slots missing
