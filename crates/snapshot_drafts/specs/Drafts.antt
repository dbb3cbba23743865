-- A snapshot in the making, of what a broker held when it began.
use Rattle.std.specs.Prelude.{◌≡◌, ◌≢◌, ℕ, ⊤, true, List, length, map, Option, IfSome}
use Rattle.content.specs.Content.{Content}
use Rattle.copy_images.specs.Images.{image_of}
use Rattle.broker_state.specs.declared.place.Place.{Place}
use Rattle.broker_state.specs.State.{Topic, State}
use Rattle.snapshots.specs.declared.writing.SnapshotId.{SnapshotId}
use Rattle.state_snapshots.specs.Snapshots.{state_head}
use Rattle.snapshot_drafts.specs.declared.error.DraftError.{DraftError}
use Rattle.snapshot_drafts.specs.declared.error.DraftError.TheVariants.{OutOfMemory, OtherSize, Unfinished, OnDisk}
use Rattle.snapshot_drafts.specs.Slots.{part_in}
use Rattle.snapshot_drafts.specs.Parts.{DraftState, HasParts}

-- the content of the partition at a place
abbrev pub content_in : State → Place → Option Content
content_in s place = part_in (map (λ t. t.partitions) s.topics) place

-- the images of a topic's partitions, from 0 on
abbrev pub partition_images : Topic → List (List ℕ)
partition_images t = map image_of t.partitions

abbrev pub all_images : State → List (List (List ℕ))
all_images s = map partition_images s.topics

-- The draft is one of the snapshot of what a broker held (`base`): its file begins with the head of that, and each image that
-- isn't missing is that of what the broker held, and stands at its place.
abbrev pub IsDraftOf : {F : Type 0} (seen : F → Option (List ℕ)) (id : SnapshotId) (base : State) → DraftState F → Type 0
IsDraftOf seen id base d = HasParts seen (state_head id base) (all_images base) d

-- Why the image of a partition isn't written.
abbrev pub RefusesImage : {F : Type 0} → DraftState F → Place → (image : List ℕ) → DraftError → Type 0
RefusesImage d place image OtherSize =
    IfSome (part_in d.topics place) (λ slot. (slot.missing ≡ true) × (slot.size ≢ length image))
RefusesImage d place image Unfinished = ⊥
RefusesImage d place image OutOfMemory = ⊤
RefusesImage d place image (OnDisk e) = ⊤
