-- A snapshot in the making, over plain bytes: a head, and the images of topic behind topic.
use Rattle.std.specs.Prelude.{◌≡◌, ℕ, ◌≤◌, Bool, false, List, [], ◌++◌, length, set, get_or, Option, IfSome}
use Rattle.std.specs.List.{concat, flat_map}
use Rattle.std.specs.Option.{option_map}
use Rattle.broker_state.specs.declared.place.Place.{Place}
use Rattle.snapshot_drafts.specs.declared.slots.Slot.{Slot}
use Rattle.snapshot_drafts.specs.Files.{with_bytes, StandsAt}
use Rattle.snapshot_drafts.specs.Slots.{AreTopics, part_in, has_missing}

-- Its file, where the image of each partition belongs and whether it is missing, and how many bytes the whole file has.
pub record DraftState (F : Type 0) : Type 0 where
  pub file : F
  pub topics : List (List Slot)
  pub size : ℕ

abbrev pub is_missing : {F : Type 0} → DraftState F → Place → Bool
is_missing d place = has_missing (part_in d.topics place)

-- all bytes of the whole file
abbrev pub whole_of : (head : List ℕ) (topics : List (List (List ℕ))) → List ℕ
whole_of head topics = head ++ flat_map concat topics

-- The file begins with the head, each image that isn't missing stands at its place behind it, and there is no more.
pub record HasParts {F : Type 0} (seen : F → Option (List ℕ)) (head : List ℕ) (topics : List (List (List ℕ)))
    (d : DraftState F) : Type 0 where
  pub begins : IfSome (seen d.file) (StandsAt 0 head)
  pub slots : AreTopics (seen d.file) (length head) topics d.topics
  pub size : d.size ≡ length (whole_of head topics)
  pub within : IfSome (seen d.file) (λ file. length file ≤ d.size)

-- the slots with another one of a partition
abbrev pub with_slot : List (List Slot) → Place → Slot → List (List Slot)
with_slot topics place slot =
    set topics place.topic (set (get_or topics place.topic []) place.partition slot)

-- An image was written where its slot says, and is marked as written.
pub record PutsImage {F : Type 0} (seen : F → Option (List ℕ)) (old : DraftState F) (place : Place) (slot : Slot)
    (image : List ℕ) (new : DraftState F) : Type 0 where
  pub file : seen new.file ≡ option_map (with_bytes slot.at image) (seen old.file)
  pub topics : new.topics ≡ with_slot old.topics place (record slot { missing = false })
  pub size : new.size ≡ old.size
