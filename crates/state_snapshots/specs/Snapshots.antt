-- The snapshot of what a broker holds, from its first byte to its last. The form is this project's own.
use Rattle.std.specs.Prelude.{ℕ, ◌≤◌, ℤ, pos, List, ◌++◌, length, map, FitsSigned, Some}
use Rattle.std.specs.List.{flat_map, AllByRecursion}
use Rattle.std.specs.Int.{w64}
use Rattle.frame_fields.specs.Fields.{Value, Fits, FitsLength, encoded, size32}
use Rattle.frame_fields.specs.Types.{topic}
use Rattle.frame_fields.specs.Reading.{nothing}
use Rattle.content.specs.Content.{Content}
use Rattle.copy_images.specs.declared.layout.TheConstants.{MAX_COUNT}
use Rattle.copy_images.specs.Images.{image_of}
use Rattle.broker_state.specs.declared.config.Role.{Role}
use Rattle.broker_state.specs.declared.config.Role.TheVariants.{Leader, Follower}
use Rattle.broker_state.specs.State.{Topic, State}
use Rattle.snapshots.specs.declared.writing.SnapshotId.{SnapshotId}
use Rattle.snapshots.specs.Heads.{partition_fields, snapshot_fields, head_bytes}

-- ---- the head

abbrev pub role_number : Role → ℤ
role_number Leader = pos 0
role_number Follower = pos 1

-- how many bytes the image of each partition has
abbrev pub image_sizes : Topic → List ℤ
image_sizes t = map (λ c. pos (length (image_of c))) t.partitions

-- the name of a topic, and these sizes
abbrev pub topic_said : Topic → Value (topic partition_fields)
topic_said t = (t.name, (map (λ z. (z, nothing)) (image_sizes t), nothing))

-- number, role, first_producer, next_producer, topics
abbrev pub state_said : (number : ℤ) → State → Value snapshot_fields
state_said number s =
    (number, (role_number s.config.role, (s.config.first_producer, (s.next_producer, (map topic_said s.topics, nothing)))))

abbrev pub state_head : SnapshotId → State → List ℕ
state_head id s = head_bytes (Some id.key) (state_said id.number s)

-- ---- the whole

-- the images of a topic's partitions, from 0 on
abbrev pub topic_images : Topic → List ℕ
topic_images t = flat_map image_of t.partitions

abbrev pub images_of : List Topic → List ℕ
images_of ts = flat_map topic_images ts

abbrev pub snapshot_bytes : SnapshotId → State → List ℕ
snapshot_bytes id s = state_head id s ++ images_of s.topics

-- ---- what can be written

-- the ranges and the batches of a copy are no more than its image can count
abbrev pub IsCounted : Content → Type 0
IsCounted c = (length c.cover ≤ MAX_COUNT) × (length c.kept ≤ MAX_COUNT)

-- those of each partition
abbrev pub IsCountedTopic : Topic → Type 0
IsCountedTopic t = AllByRecursion IsCounted t.partitions

abbrev pub AreCounted : State → Type 0
AreCounted s = AllByRecursion IsCountedTopic s.topics

-- the sizes of a topic's images are int64
abbrev pub SizesFit : Topic → Type 0
SizesFit t = AllByRecursion (FitsSigned w64) (image_sizes t)

-- what the head says fits into its fields, and so can be read again
pub record IsReadable (id : SnapshotId) (s : State) : Type 0 where
  pub fits : Fits snapshot_fields (state_said id.number s)
  pub sized : FitsLength size32 (length (encoded snapshot_fields (state_said id.number s)))
  pub keyed : FitsSigned w64 id.key
