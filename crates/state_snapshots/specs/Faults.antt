-- Why what a snapshot holds isn't put in place.
use Rattle.std.specs.Prelude.{◌≡◌, ◌≢◌, ◌⊎◌, ℕ, ◌+◌, ◌<◌, ◌≤◌, ℤ, pos, ◌+ℤ◌, ◌<ℤ◌, Bool, true, List, ◌∷◌, length, Option, IfSome}
use Rattle.content.specs.Content.{Content}
use Rattle.journal.specs.declared.error.ReadError.{ReadError}
use Rattle.journal.specs.declared.error.ReadError.TheVariants as read
use Rattle.journal.specs.Readers.{ReadsMayFail, FailsWithin}
use Rattle.copy_images.specs.declared.error.ImageError.{ImageError}
use Rattle.copy_images.specs.declared.error.ImageError.TheVariants as image
use Rattle.copy_images.specs.Refusals.{Refuses}
use Rattle.broker_state.specs.State.{State}
use Rattle.broker_state.specs.Restoring.{RefusesRestore}
use Rattle.snapshots.specs.Heads.{SnapshotValue}
use Rattle.state_snapshots.specs.declared.fault.ImageFault.TheVariants.{BadSize, Short, Image, Behind}
use Rattle.state_snapshots.specs.declared.fault.RestoreFault.{RestoreFault}
use Rattle.state_snapshots.specs.declared.fault.RestoreFault.TheVariants.{OutOfMemory, OnDisk, Damaged, Refused, EarlyProducer}
use Rattle.state_snapshots.specs.Restoring.{Announced, announced, AreAt, HasImageAt, HasRestored, RestoresAll}

-- what it is called that bytes can't be read
abbrev pub read_fault : ReadError → RestoreFault
read_fault read.OutOfMemory = OutOfMemory
read_fault (read.OnDisk e) = OnDisk e

-- so many bytes at an offset of the file are refused as an image, and not for lack of memory
abbrev pub HasNoImageAt : (seen : Option (List ℕ)) (at : ℕ) (size : ℤ) → ImageError → Type 0
HasNoImageAt seen at size why =
    (bytes : List ℕ) × AreAt seen at size bytes × Refuses bytes why × (why ≢ image.OutOfMemory)

-- Why a partition isn't put in place whose image should begin at this offset of a file with that end, where the broker
-- holds this state.
abbrev pub PartitionFault : (seen : Option (List ℕ)) (may_fail : Bool) (end : ℕ) → Announced → (at : ℕ) → State → RestoreFault
    → Type 0
PartitionFault seen may_fail end p at s OutOfMemory = Unit {0}
PartitionFault seen may_fail end p at s (OnDisk e) = ReadsMayFail seen may_fail
PartitionFault seen may_fail end p at s (Damaged offset BadSize) = (offset ≡ at) × (p.size <ℤ pos 0)
PartitionFault seen may_fail end p at s (Damaged offset Short) = (offset ≡ end) × (pos end <ℤ (pos at +ℤ p.size))
PartitionFault seen may_fail end p at s (Damaged offset (Image why)) = (offset ≡ at) × HasNoImageAt seen at p.size why
PartitionFault seen may_fail end p at s (Refused offset why) =
    (offset ≡ at) × (c : Content) × HasImageAt seen at p.size c × RefusesRestore s p.topic p.partition c why
PartitionFault seen may_fail end p at s _ = ⊥

-- The first partitions are put in place, and the next one isn't for this reason.
pub record StopsFor (seen : Option (List ℕ)) (may_fail : Bool) (all : List Announced) (at : ℕ) (s now : State)
    (fault : RestoreFault) : Type 0 where
  pub next : Announced
  pub left : List Announced
  pub behind : ℕ
  pub end : ℕ
  pub ends : IfSome seen (λ file. end ≡ length file)
  pub restored : HasRestored seen all (next ∷ left) at behind s now
  pub why : PartitionFault seen may_fail end next behind now fault

-- All partitions are put in place, and something else is wrong; or how long the file is can't be told.
abbrev pub FailsBehind : SnapshotValue → (seen : Option (List ℕ)) (may_fail : Bool) (at : ℕ) (s now : State) → RestoreFault
    → Type 0
FailsBehind head seen may_fail at s now (OnDisk e) = may_fail ≡ true
FailsBehind head seen may_fail at s now (Damaged offset Behind) =
    RestoresAll seen (announced head.topics) at offset s now × IfSome seen (λ file. offset < length file)
FailsBehind head seen may_fail at s now EarlyProducer =
    (end : ℕ) × RestoresAll seen (announced head.topics) at end s now × IfSome seen (λ file. length file ≤ end)
    × (head.next_producer <ℤ now.config.first_producer)
FailsBehind head seen may_fail at s now _ = ⊥

-- the first fault, partition by partition, and then behind them
abbrev pub RestoreFails : SnapshotValue → (seen : Option (List ℕ)) (may_fail : Bool) (at : ℕ) (s now : State) → RestoreFault
    → Type 0
RestoreFails head seen may_fail at s now fault =
    StopsFor seen may_fail (announced head.topics) at s now fault ⊎ FailsBehind head seen may_fail at s now fault

-- ---- words of private clauses

-- an image can't have this size
abbrev pub SizeFault : (size : ℤ) (at end : ℕ) → RestoreFault → Type 0
SizeFault size at end (Damaged offset BadSize) = (offset ≡ at) × (size <ℤ pos 0)
SizeFault size at end (Damaged offset Short) = (offset ≡ end) × (pos end <ℤ (pos at +ℤ size))
SizeFault size at end _ = ⊥

-- so many bytes aren't read as an image, where the file has them
abbrev pub CopyFault : (seen : Option (List ℕ)) (may_fail : Bool) (at count : ℕ) → RestoreFault → Type 0
CopyFault seen may_fail at count OutOfMemory = Unit {0}
CopyFault seen may_fail at count (OnDisk e) = FailsWithin seen may_fail (at + count)
CopyFault seen may_fail at count (Damaged offset (Image why)) = (offset ≡ at) × HasNoImageAt seen at (pos count) why
CopyFault seen may_fail at count _ = ⊥

-- a copy isn't taken
abbrev pub PutFault : State → (topic : List ℕ) (index at : ℕ) → Content → RestoreFault → Type 0
PutFault s topic index at c (Refused offset why) = (offset ≡ at) × RefusesRestore s topic (pos index) c why
PutFault s topic index at c _ = ⊥

-- the file doesn't end behind the last image
abbrev pub EndFault : (behind end : ℕ) → RestoreFault → Type 0
EndFault behind end fault = (fault ≡ Damaged behind Behind) × (behind < end)

-- what it is called that bytes are refused as an image
abbrev pub image_fault : (at : ℕ) → ImageError → RestoreFault
image_fault at image.OutOfMemory = OutOfMemory
image_fault at why = Damaged at (Image why)
