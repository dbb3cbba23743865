-- What a frame did to the partitions at which sessions wait, one after the other. Words of private clauses.
use Rattle.std.specs.Prelude.{◌≡◌, ⊤, ◌⊎◌, ℕ, ℤ, pos, negsuc, ◌+◌, Bool, true, false, ◌&&◌, nat_eq, bytes_eq, List, length, map, Option, Some, None, if◌then◌else◌}
use Rattle.std.specs.List.{list_any, position_or_len}
use Rattle.std.specs.Option.{option_map}
use Rattle.content.specs.Content.{end}
use Rattle.request_frames.specs.Produce.{ProducePartitionValue}
use Rattle.broker_node.specs.Effects.{TopicPartition}
use Rattle.broker_state.specs.declared.place.Place.{Place}
use Rattle.broker_state.specs.Places.{IsPlaceOf}
use Rattle.broker_state.specs.State.{State, content_at}
use Rattle.fetch_waits.specs.Waiting.{bytes_from}
use Rattle.fetch_waits.specs.Sleeping.{Contents, GrowsBy}
use Rattle.sessions.specs.declared.waits.PartitionKey.{PartitionKey}
use Rattle.sessions.specs.declared.waits.Share.{Share}
use Rattle.sessions.specs.declared.waits.Growth.{Growth}
use Rattle.sessions.specs.declared.waiting.Noted.{Noted}
use Rattle.sessions.specs.declared.waiting.Noted.TheVariants.{Grows}
use Rattle.sessions.specs.Asleep.{AreMarked, is_marked}
use Rattle.sessions.specs.Waiting.{GoesOn, SleepsOn, StandState, WaitState, WaitsState, WaitingState, asleep_at, is_same_key, kept, less_missing, place_of, share_at, share_in, stand_at, wait_at}

-- ---- keys

-- a key is that of a topic's partition
abbrev pub is_at : State → PartitionKey → (name : List ℕ) → (p : ℤ) → Bool
is_at s key name (pos n) = nat_eq (position_or_len (λ t. bytes_eq t.name name) s.topics) key.topic && nat_eq n key.partition
is_at s key name (negsuc n) = false

-- what is held once the partitions with these keys were looked at
abbrev pub seen : (s after : State) → List PartitionKey → Contents
seen s after keys name p = if list_any (λ key. is_at s key name p) keys then content_at after name p else content_at s name p

-- ---- who stands there

-- Whoever passes a test stands where it stood, nobody comes to a partition, and none ends elsewhere.
pub record KeepsStands (stays : ℕ → Type 0) (old new : WaitingState) : Type 0 where
  pub shares : (key : PartitionKey) (stand : StandState) (share : Share) (k : ℕ) → stays k → stand_at old key ≡ Some stand → share_in stand k ≡ Some share
      → (after : StandState) × (stand_at new key ≡ Some after) × (after.grown ≡ stand.grown) × (share_in after k ≡ Some share)
  pub ends : (key : PartitionKey) (after : StandState) → stand_at new key ≡ Some after → (stand : StandState) × (stand_at old key ≡ Some stand) × (after.end ≡ stand.end)
  pub none : (key : PartitionKey) (k : ℕ) → share_at old key k ≡ None → share_at new key k ≡ None

-- ---- one partition is looked at

-- what is held at it then, and that it only grew where the frame only appends or cleans
pub record Sees (s : State) (noted : Noted) (after : State) (key : PartitionKey) (now next : Contents) : Type 0 where
  pub here : (name : List ℕ) (p : ℤ) → is_at s key name p ≡ true → next name p ≡ content_at after name p
  pub others : (name : List ℕ) (p : ℤ) → is_at s key name p ≡ false → next name p ≡ now name p
  pub grows : noted ≡ Grows → (name : List ℕ) (p : ℤ) → (more : ℕ) × GrowsBy (now name p) (content_at after name p) more
  pub places : (name : List ℕ) (p : ℤ) (place : Place) → IsPlaceOf s name p place → IsPlaceOf after name p place

-- Those that wait for a partition are as many; it grew by so much, where that is known.
pub record Counts (after : State) (place : Place) (old new : StandState) : Type 0 where
  pub shares : new.shares ≡ old.shares
  pub ends : (name : List ℕ) (p : ℤ) → IsPlaceOf after name p place → new.end ≡ end (content_at after name p)

pub record Grew (after : State) (place : Place) (old new : StandState) (growth : Growth) : Type 0 where
  pub grown : new.grown ≡ old.grown + growth.more
  pub all : growth.grown ≡ new.grown
  pub bytes : (name : List ℕ) (p : ℤ) → IsPlaceOf after name p place → growth.more ≡ length (bytes_from (content_at after name p) old.end)

-- One of them sleeps on: the frame only appended or cleaned, and by so much, which leaves some missing.
pub record StaysAsleep (after : State) (noted : Noted) (place : Place) (old new : StandState) (share : Share) (wait next : WaitState) : Type 0 where
  pub growth : Growth
  pub appends : noted ≡ Grows
  pub grew : Grew after place old new growth
  pub goes : (growth.more ≡ 0) ⊎ GoesOn wait share growth
  pub less : next ≡ less_missing wait share growth

-- who sleeps then slept before, and sleeps on
abbrev pub Looks : (after : State) → Noted → Place → (old new : StandState) → Option Share → (wait next : Option WaitState) → Type 0
Looks after noted place old new None wait next = next ≡ wait
Looks after noted place old new (Some share) wait None = ⊤
Looks after noted place old new (Some share) None (Some next) = ⊥
Looks after noted place old new (Some share) (Some wait) (Some next) = StaysAsleep after noted place old new share wait next

-- nobody's time changes, nor its partitions, nor whether it was named
abbrev pub KeepsDues : (old new : WaitsState) → Type 0
KeepsDues old new = (k : ℕ) → option_map kept (wait_at new k) ≡ option_map kept (wait_at old k)

-- All look at the partition with a key who wait for it, and nothing else changes.
pub record LooksAt (after : State) (noted : Noted) (key : PartitionKey) (old new : WaitingState) : Type 0 where
  pub stand : StandState
  pub next : StandState
  pub was : stand_at old key ≡ Some stand
  pub is : stand_at new key ≡ Some next
  pub others : (k : PartitionKey) → is_same_key key k ≡ false → stand_at new k ≡ stand_at old k
  pub counts : Counts after (place_of key) stand next
  pub each : (k : ℕ) → Looks after noted (place_of key) stand next (share_in stand k) (asleep_at old.waits k) (asleep_at new.waits k)
  pub dues : KeepsDues old.waits new.waits
  pub times : new.times ≡ old.times

-- what each that has a share, or none, does where its partition grew, by so much if that is known
abbrev pub GrowsOn : Option Share → Option Growth → (old new : Option WaitState) → Type 0
GrowsOn None growth old new = new ≡ old
GrowsOn (Some share) growth old new = SleepsOn share growth old new

-- ---- partitions are marked

-- a topic's partitions to which a request appends
abbrev pub produced_in : (topic : List ℕ) → List ProducePartitionValue → List TopicPartition
produced_in name es = map (λ e. record { topic = name; partition = e.index }) es

-- These partitions are marked too; only the order of those that are waited for changes.
pub record Marks (s : State) (old new : WaitingState) (ps : List TopicPartition) : Type 0 where
  pub waits : new.waits ≡ old.waits
  pub times : new.times ≡ old.times
  pub stands : (key : PartitionKey) → stand_at new key ≡ stand_at old key
  pub before : (key : PartitionKey) → is_marked old key ≡ true → is_marked new key ≡ true
  pub these : AreMarked s new ps
