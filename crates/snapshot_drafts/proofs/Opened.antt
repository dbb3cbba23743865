-- A draft that is begun for what a broker holds, and one that is finished.
use Rattle.std.proofs.Common.{◌≡◌, ℕ, pos, ◌+◌, ◌<◌, true, List, [], ◌∷◌, ◌++◌, length, Option, Some, refl, sym, ap, ◌∙◌, subst}
use Rattle.std.specs.Prelude.{IfSome, map, is_some, get_or, slice_get}
use Rattle.std.specs.List.{concat, flat_map}
use Rattle.std.proofs.lemmas.List.{length-append}
use Rattle.std.specs.Option.{option_map}
use Rattle.std.proofs.lemmas.Option.{slice_get-map, slice_get_read}
use Rattle.content.specs.Content.{Content}
use Rattle.copy_images.specs.Images.{image_of}
use Rattle.broker_state.specs.declared.place.Place.{Place}
use Rattle.broker_state.specs.State.{Topic, State, partition_of}
use Rattle.broker_state.specs.Parts.{TopicParts, topic_contents}
use Rattle.snapshots.specs.declared.writing.SnapshotId.{SnapshotId}
use Rattle.state_snapshots.specs.Snapshots.{state_head, snapshot_bytes}
use Rattle.snapshot_drafts.specs.declared.slots.Slot.{Slot}
use Rattle.snapshot_drafts.specs.Files.{with_bytes}
use Rattle.snapshot_drafts.specs.Slots.{has_missing, part_in, new_slots, new_topics}
use Rattle.snapshot_drafts.specs.Parts.{DraftState, HasParts, is_missing, whole_of}
use Rattle.snapshot_drafts.specs.Drafts.{IsDraftOf, content_in, partition_images, all_images}
use Rattle.snapshot_drafts.proofs.Begun.{HasSlots, HasTopics, slots_more, topics_more, draft_begun, part_missing}
use Rattle.snapshot_drafts.proofs.Kept.{sum_all}
use Rattle.snapshot_drafts.proofs.Whole.{part_known, whole_images}

abbrev images : TopicParts → List (List ℕ)
images t = partition_images (topic_contents t)

-- the images of topics as a broker holds them
same_images : (ts : List TopicParts) (topics : List Topic) → map topic_contents ts ≡ topics → map images ts ≡ map partition_images topics
same_images ts topics are = twice ts ∙ ap (map partition_images) are
  where
    twice : (ts : List TopicParts) → map images ts ≡ map partition_images (map topic_contents ts)
    twice [] = refl
    twice (t ∷ ts) = ap (λ (l : List (List (List ℕ))). images t ∷ l) (twice ts)

-- the image of one partition more
pub image_more : (start : ℕ) (t : Topic) (made new : List Slot) (i at size end : ℕ) (c : Content) → partition_of (pos i) t ≡ Some c → size ≡ length (image_of c) → end ≡ at + size
    → new ≡ made ++ record { at = at; size = size; missing = true } ∷ [] → HasSlots start (partition_images t) made i at → HasSlots start (partition_images t) new (i + 1) end
image_more start t made new i at size end c there is moved pushed so_far =
    let image : slice_get (partition_images t) i ≡ Some (image_of c) = slice_get-map image_of t.partitions i ∙ ap (option_map image_of) there in
    slots_more start (partition_images t) made new i at size end (image_of c) image is moved pushed so_far

-- those of one topic more
pub images_more : (start : ℕ) (ts : List TopicParts) (made new : List (List Slot)) (i at end : ℕ) (t : TopicParts) (slots : List Slot) → i < length ts → t ≡ get_or ts i t → slots ≡ new_slots at (images t) → end ≡ at + length (concat (images t))
    → new ≡ made ++ slots ∷ [] → HasTopics start (map images ts) made i at → HasTopics start (map images ts) new (i + 1) end
images_more start ts made new i at end t slots low is are further pushed so_far =
    let there : slice_get (map images ts) i ≡ Some (images t) = slice_get-map images ts i ∙ ap (option_map images) (slice_get_read ts (length ts) i t refl low is) in
    topics_more start (map images ts) made new i at end (images t) slots there are further pushed so_far

module _ (slots : List (List Slot)) (start : ℕ) (head : List ℕ) (ts : List TopicParts) (s : State) (at : start ≡ length head) (are : map topic_contents ts ≡ s.topics) (made : slots ≡ new_topics start (map images ts)) where
  slots_here : slots ≡ new_topics (length head) (all_images s)
  slots_here = made ∙ (λ i. new_topics (at i) (same_images ts s.topics are i))

  pub missing_here : (place : Place) → has_missing (part_in slots place) ≡ is_some (content_in s place)
  missing_here place =
      ap (λ (l : List (List Slot)). has_missing (part_in l place)) slots_here
      ∙ part_missing (length head) (all_images s) place
      ∙ part_known (λ (t : Topic). t.partitions) image_of s.topics place

pub state_begun : {F : Type 0} (seen : F → Option (List ℕ)) (id : SnapshotId) (s : State) (old new : F) (d : DraftState F) (slots : List (List Slot)) (size start : ℕ) (head bytes : List ℕ) (ts : List TopicParts)
    → d ≡ record { file = new; topics = slots; size = size } → seen new ≡ option_map (with_bytes 0 bytes) (seen old) → bytes ≡ head → head ≡ state_head id s → start ≡ length head
    → map topic_contents ts ≡ s.topics → slots ≡ new_topics start (map images ts) → size ≡ start + sum_all (map images ts) → IfSome (seen old) (λ file. file ≡ []) → IsDraftOf seen id s d
state_begun seen id s old new d slots size start head bytes ts made written same is at are placed ends none =
    subst (λ (h : List ℕ). HasParts seen h (all_images s) d) is
    (draft_begun seen head (all_images s) old d
    (ap (λ d. seen d.file) made ∙ written ∙ ap (λ (l : List ℕ). option_map (with_bytes 0 l) (seen old)) same)
    (ap (λ d. d.topics) made ∙ slots_here slots start head ts s at are placed)
    (ap (λ d. d.size) made ∙ ends ∙ (λ i. at i + sum_all (same_images ts s.topics are i)))
    none)

pub state_missing : {F : Type 0} (s : State) (new : F) (d : DraftState F) (slots : List (List Slot)) (size start : ℕ) (head : List ℕ) (ts : List TopicParts)
    → d ≡ record { file = new; topics = slots; size = size } → start ≡ length head → map topic_contents ts ≡ s.topics → slots ≡ new_topics start (map images ts) → (place : Place) → is_missing d place ≡ is_some (content_in s place)
state_missing s new d slots size start head ts made at are placed place =
    ap (λ d. is_missing d place) made ∙ missing_here slots start head ts s at are placed place

-- the whole file is the snapshot
pub whole_is : (id : SnapshotId) (s : State) → whole_of (state_head id s) (all_images s) ≡ snapshot_bytes id s
whole_is id s = ap (λ (l : List ℕ). state_head id s ++ l) (whole_images (λ (t : Topic). t.partitions) image_of s.topics)

-- how many bytes it has
pub size_is : (id : SnapshotId) (s : State) (size start : ℕ) (head : List ℕ) (ts : List TopicParts) → head ≡ state_head id s → start ≡ length head → map topic_contents ts ≡ s.topics
    → size ≡ start + sum_all (map images ts) → size ≡ length (snapshot_bytes id s)
size_is id s size start head ts is at are ends =
    ends ∙ (λ i. at i + sum_all (same_images ts s.topics are i)) ∙ ap (λ (h : List ℕ). length h + sum_all (all_images s)) is
    ∙ sym (length-append (state_head id s) (flat_map concat (all_images s))) ∙ ap length (whole_is id s)
