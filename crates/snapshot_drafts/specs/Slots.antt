-- Where images belong in a file, and which of them stand there.
use Rattle.std.specs.Prelude.{◌≡◌, ℕ, ◌+◌, ◌<◌, ◌⊎◌, Bool, false, true, ⊤, List, [], ◌∷◌, length, Option, None, Some, IfSome, slice_get}
use Rattle.std.specs.List.{concat}
use Rattle.std.specs.Option.{option_and_then}
use Rattle.broker_state.specs.declared.place.Place.{Place}
use Rattle.snapshot_drafts.specs.declared.slots.Slot.{Slot}
use Rattle.snapshot_drafts.specs.Files.{StandsAt}

-- The slot of an image that belongs at an offset of a file: the image stands there unless it is missing.
pub record IsSlot (file : Option (List ℕ)) (start : ℕ) (image : List ℕ) (slot : Slot) : Type 0 where
  pub at : slot.at ≡ start
  pub size : slot.size ≡ length image
  pub written : slot.missing ≡ false → IfSome file (StandsAt start image)

-- the slots of images that belong one behind the other, from an offset on
abbrev pub AreSlots : (file : Option (List ℕ)) (start : ℕ) (images : List (List ℕ)) → List Slot → Type 0
AreSlots file start [] [] = ⊤
AreSlots file start (image ∷ images) (slot ∷ slots) =
    IsSlot file start image slot × AreSlots file (start + length image) images slots
AreSlots file start _ _ = ⊥

-- those of topic behind topic
abbrev pub AreTopics : (file : Option (List ℕ)) (start : ℕ) (topics : List (List (List ℕ))) → List (List Slot) → Type 0
AreTopics file start [] [] = ⊤
AreTopics file start (images ∷ topics) (slots ∷ others) =
    AreSlots file start images slots × AreTopics file (start + length (concat images)) topics others
AreTopics file start _ _ = ⊥

-- what lists of lists have at a place
abbrev pub part_in : {X : Type 0} → List (List X) → Place → Option X
part_in topics place = option_and_then (λ parts. slice_get parts place.partition) (slice_get topics place.topic)

-- the order of the file
abbrev pub IsBefore : Place → Place → Type 0
IsBefore a b = (a.topic < b.topic) ⊎ ((a.topic ≡ b.topic) × (a.partition < b.partition))

-- whether there is a slot whose image is missing
abbrev pub has_missing : Option Slot → Bool
has_missing None = false
has_missing (Some slot) = slot.missing

-- ---- of a file that is begun

-- the slots of images that are all missing
abbrev pub new_slots : (start : ℕ) (images : List (List ℕ)) → List Slot
new_slots start [] = []
new_slots start (image ∷ images) =
    record { at = start; size = length image; missing = true } ∷ new_slots (start + length image) images

abbrev pub new_topics : (start : ℕ) (topics : List (List (List ℕ))) → List (List Slot)
new_topics start [] = []
new_topics start (images ∷ topics) = new_slots start images ∷ new_topics (start + length (concat images)) topics
