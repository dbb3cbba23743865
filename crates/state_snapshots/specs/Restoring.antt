-- What a broker holds, put back from its snapshot.
use Rattle.std.specs.Prelude.{◌≡◌, ℕ, ◌+◌, ℤ, pos, List, [], ◌∷◌, ◌++◌, length, take, drop, map, Option, IfSome, ◌≤ℤ◌}
use Rattle.std.specs.List.{flat_map, fold, AllByRecursion}
use Rattle.frame_fields.specs.Types.{TopicOf}
use Rattle.content.specs.Content.{Content}
use Rattle.copy_images.specs.Images.{IsImage}
use Rattle.broker_state.specs.State.{State, with_content}
use Rattle.broker_state.specs.Restoring.{CanRestore}
use Rattle.broker_state.specs.Producers.{with_next_id}
use Rattle.snapshots.specs.Heads.{SnapshotValue}

-- ---- the partitions of a snapshot

-- what a head says of a partition: its topic, its number, and how many bytes its image has
pub record Announced : Type 0 where
  pub topic : List ℕ
  pub partition : ℤ
  pub size : ℤ

-- those of a topic, from this number on
abbrev pub numbered : (topic : List ℕ) → (first : ℕ) → (sizes : List ℤ) → List Announced
numbered topic first [] = []
numbered topic first (size ∷ sizes) =
    record { topic = topic; partition = pos first; size = size } ∷ numbered topic (first + 1) sizes

-- those of all topics, in their order
abbrev pub announced : List (TopicOf ℤ) → List Announced
announced ts = flat_map (λ t. numbered t.name 0 t.entries) ts

-- a partition as it is kept: the bytes of its image, and what it holds
pub record Kept : Type 0 where
  pub topic : List ℕ
  pub partition : ℤ
  pub image : List ℕ
  pub content : Content

abbrev pub said_of : Kept → Announced
said_of p = record { topic = p.topic; partition = p.partition; size = pos (length p.image) }

abbrev pub HoldsItsImage : Kept → Type 0
HoldsItsImage p = IsImage p.image p.content

-- their images, one after the other
abbrev pub kept_bytes : List Kept → List ℕ
kept_bytes ps = flat_map (λ p. p.image) ps

-- ---- where their images stand

-- So many bytes at an offset of a file, where the file is known.
pub record AreAt (seen : Option (List ℕ)) (at : ℕ) (size : ℤ) (bytes : List ℕ) : Type 0 where
  pub sized : size ≡ pos (length bytes)
  pub read : IfSome seen (λ file. bytes ≡ take (length bytes) (drop at file))

-- they are the image of this content
abbrev pub HasImageAt : (seen : Option (List ℕ)) (at : ℕ) (size : ℤ) → Content → Type 0
HasImageAt seen at size c = (image : List ℕ) × AreAt seen at size image × IsImage image c

-- ---- putting them in place

-- the broker has the partition, and may hold its content there
abbrev pub IsTaken : State → Kept → Type 0
IsTaken s p = CanRestore s p.topic p.partition p.content

-- the state in which each partition holds its content, and all else is as before
abbrev pub with_kept : State → List Kept → State
with_kept s ps = fold (λ t p. with_content t p.topic p.partition p.content) s ps

-- Of all these partitions the first ones are put in place, and those that are left aren't yet. The images of the first
-- ones stand in the file from one offset to another.
pub record HasRestored (seen : Option (List ℕ)) (all left : List Announced) (from to : ℕ) (s now : State) : Type 0 where
  pub done : List Kept
  pub said : map said_of done ++ left ≡ all
  pub images : AllByRecursion HoldsItsImage done
  pub taken : AllByRecursion (IsTaken s) done
  pub file : IfSome seen (λ file. drop from file ≡ kept_bytes done ++ drop to file)
  pub state : now ≡ with_kept s done

abbrev pub RestoresAll : (seen : Option (List ℕ)) → List Announced → (from to : ℕ) → (s after : State) → Type 0
RestoresAll seen all from to s after = HasRestored seen all [] from to s after

-- ---- the whole

-- From this offset on the file, where it is known, has the images that the head announces, one after the other, and
-- nothing behind them. What they are the images of is what these partitions hold now, each of which the broker has,
-- and the next producer id is that of the head, which isn't below the first one of the configuration.
pub record IsRestored (head : SnapshotValue) (seen : Option (List ℕ)) (at : ℕ) (s after : State) : Type 0 where
  pub partitions : List Kept
  pub said : map said_of partitions ≡ announced head.topics
  pub images : AllByRecursion HoldsItsImage partitions
  pub taken : AllByRecursion (IsTaken s) partitions
  pub file : IfSome seen (λ file. drop at file ≡ kept_bytes partitions)
  pub state : after ≡ with_next_id (with_kept s partitions) head.next_producer
  pub not_early : after.config.first_producer ≤ℤ head.next_producer
