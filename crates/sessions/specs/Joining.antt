-- What a session counts as it begins to wait. Words of private clauses.
use Rattle.std.specs.Prelude.{◌≡◌, ◌≢◌, ⊤, ℕ, ℤ, ◌+◌, ◌-◌, ◌^◌, ◌<◌, ◌≤◌, ◌⊎◌, true, ◌&&◌, min, map, bytes_eq, List, [], ◌∷◌, ◌++◌, length, Option, Some, None, IsSome, if◌then◌else◌}
use Rattle.std.specs.Option.{unwrap_or}
use Rattle.std.specs.Ordering.{int_eq}
use Rattle.content.specs.Content.{end}
use Rattle.frame_fields.specs.Types.{TopicOf}
use Rattle.request_frames.specs.Fetch.{FetchPartitionValue}
use Rattle.broker_state.specs.declared.place.Place.{Place}
use Rattle.broker_state.specs.Places.{IsPlaceOf}
use Rattle.broker_state.specs.State.{State, content_at}
use Rattle.fetch_waits.specs.Sleeping.{there_at}
use Rattle.sessions.specs.declared.waits.PartitionKey.{PartitionKey}
use Rattle.sessions.specs.declared.waits.Share.{Share}
use Rattle.sessions.specs.Waiting.{StandState, StandersWait, WaitState, WaitingState, asleep_at, key_of, share_in, stand_at, unnamed_at, wait_at}
use Rattle.sessions.specs.Asleep.{Covers, EndsAre, has_time}

-- ---- the entries of a Fetch, one after the other

-- an entry, with the name of its topic
abbrev pub Entry : Type 0
Entry = List ℕ × FetchPartitionValue

-- those of a topic, and of some topics
abbrev pub entries_of : List ℕ → List FetchPartitionValue → List Entry
entries_of name es = map (λ e. (name, e)) es

abbrev pub entries_in : List (TopicOf FetchPartitionValue) → List Entry
entries_in [] = []
entries_in (t ∷ ts) = entries_of t.name t.entries ++ entries_in ts

-- how many bytes are there for them
abbrev pub there_for : State → List Entry → ℕ
there_for s [] = 0
there_for s (e ∷ es) = there_at s e.0 e.1 + there_for s es

-- how many of them are of a partition
abbrev pub count_for : (name : List ℕ) (p : ℤ) → List Entry → ℕ
count_for name p [] = 0
count_for name p (e ∷ es) = (if bytes_eq e.0 name && int_eq e.1.partition p then 1 else 0) + count_for name p es

-- shares cover them, that stand behind so many others
abbrev pub CoversAll : State → WaitingState → (k forced before : ℕ) → List Entry → Type 0
CoversAll s w k forced before [] = ⊤
CoversAll s w k forced before (e ∷ es) = Covers s w k forced (before + 1) e.0 e.1 × CoversAll s w k forced (before + 1) es

-- ---- what a session stands for

-- one more entry of a partition, the one with this number among all
abbrev pub share_with : (upto entry : ℕ) → Share → Share
share_with upto entry share = record { entries = share.entries + 1; upto = min share.upto upto; first = min share.first entry }

-- a share that allows no more than it did
pub record IsTighter (old new : Share) : Type 0 where
  pub entries : old.entries ≤ new.entries
  pub upto : new.upto ≤ old.upto
  pub first : new.first ≤ old.first

-- Where a session puts what it waits for, the others stay there as they are.
pub record Stays (k : ℕ) (old new : StandState) : Type 0 where
  pub end : new.end ≡ old.end
  pub grown : new.grown ≡ old.grown
  pub others : (j : ℕ) → j ≢ k → share_in new j ≡ share_in old j
  pub own : (was : Share) → share_in old k ≡ Some was → (share : Share) × (share_in new k ≡ Some share) × IsTighter was share

-- it has put one more entry there, the one with this number among all, of which a limit leaves such a room; a first one allows as
-- much as there is room for
pub record HasPut (k : ℕ) (room : Option ℕ) (entry : ℕ) (old new : StandState) : Type 0 where
  pub share : Share
  pub share_is : share_in new k ≡ Some share
  pub first : share.first ≤ entry
  pub upto : share.upto ≤ new.grown + unwrap_or room 0
  pub fresh : share_in old k ≡ None → min (new.grown + unwrap_or room 0) (2 ^ 64 - 1) ≤ share.upto
  pub some : 0 < share.entries
  pub more : (was : Share) → share_in old k ≡ Some was → was.entries < share.entries

-- for a partition at which none waited yet
abbrev pub new_stand : ℤ → StandState
new_stand end = record { end = end; grown = 0; shares = [] }

-- ---- what all wait for

-- its partition's log ends there
abbrev pub EndsAt : State → PartitionKey → ℤ → Type 0
EndsAt s key at = (name : List ℕ) (p : ℤ) (place : Place) → key_of place ≡ key → IsPlaceOf s name p place → at ≡ end (content_at s name p)

-- A session joins, whose time this is: the others wait as they did.
pub record Joins (s : State) (k : ℕ) (due : ℕ × ℕ) (old new : WaitingState) : Type 0 where
  pub waits : (j : ℕ) → j ≢ k → wait_at new.waits j ≡ wait_at old.waits j
  pub asleep : (j : ℕ) → j ≢ k → asleep_at new.waits j ≡ asleep_at old.waits j
  pub unnamed : IsSome (unnamed_at old.waits k) → IsSome (unnamed_at new.waits k)
  pub due_is : ((was : WaitState) → wait_at old.waits k ≡ Some was → was.due ≡ due) → (wait : WaitState) → wait_at new.waits k ≡ Some wait → wait.due ≡ due
  pub stands : (key : PartitionKey) (was : StandState) → stand_at old key ≡ Some was → (stand : StandState) × (stand_at new key ≡ Some stand) × Stays k was stand
  pub ends : EndsAre s (content_at s) old → EndsAre s (content_at s) new
  pub times : (time : ℕ × ℕ) → has_time time old.times ≡ true → has_time time new.times ≡ true

-- A session that waits goes on, and stands only where it waits.
pub record KeepsStanders (k : ℕ) (old new : WaitingState) : Type 0 where
  pub waits : IsSome (wait_at old.waits k) → IsSome (wait_at new.waits k)
  pub standers : IsSome (wait_at old.waits k) → StandersWait old → StandersWait new

-- A partition is among those that are waited for: it was, or none waits there yet.
pub record Knows (key : PartitionKey) (end : ℤ) (old new : WaitingState) : Type 0 where
  pub waits : new.waits ≡ old.waits
  pub times : new.times ≡ old.times
  pub kept : (other : PartitionKey) (stand : StandState) → stand_at old other ≡ Some stand → stand_at new other ≡ Some stand
  pub came : (other : PartitionKey) (stand : StandState) → stand_at new other ≡ Some stand → (stand_at old other ≡ Some stand) ⊎ ((key ≡ other) × (stand ≡ new_stand end))

-- it has put one more entry at a partition
pub record PutsAt (k : ℕ) (key : PartitionKey) (room : Option ℕ) (entry : ℕ) (old new : WaitingState) : Type 0 where
  pub stand : StandState
  pub share : Share
  pub stand_is : stand_at new key ≡ Some stand
  pub share_is : share_in stand k ≡ Some share
  pub first : share.first ≤ entry
  pub upto : share.upto ≤ stand.grown + unwrap_or room 0
  pub some : 0 < share.entries
  pub more : (before : StandState) (was : Share) → stand_at old key ≡ Some before → share_in before k ≡ Some was → was.entries < share.entries

-- who sleeps slept, and of what was missing so much is, made so by this
pub record SleepsSo (by : WaitState → WaitState) (k : ℕ) (old new : WaitingState) : Type 0 where
  pub slept : (wait : WaitState) → asleep_at new.waits k ≡ Some wait
      → (was : WaitState) × (asleep_at old.waits k ≡ Some was) × (wait.missing ≡ (by was).missing) × (wait.forced ≡ (by was).forced)

abbrev pub as_it_was : WaitState → WaitState
as_it_was wait = wait

-- ---- what was counted so far

-- of a partition
pub record HasShare (s : State) (w : WaitingState) (k : ℕ) (name : List ℕ) (p : ℤ) (entries : ℕ) : Type 0 where
  pub place : Place
  pub stand : StandState
  pub share : Share
  pub is_place : IsPlaceOf s name p place
  pub stand_is : stand_at w (key_of place) ≡ Some stand
  pub share_is : share_in stand k ≡ Some share
  pub enough : entries ≤ share.entries

-- What these entries left of so many bytes, for one that sleeps.
pub record HasCounted (s : State) (w : WaitingState) (k awaited : ℕ) (wait : WaitState) (done : List Entry) : Type 0 where
  pub missing : wait.missing ≡ awaited - there_for s done
  pub forced : wait.forced ≤ length done
  pub covers : CoversAll s w k wait.forced 0 done
  pub shares : (name : List ℕ) (p : ℤ) → 0 < count_for name p done → HasShare s w k name p (count_for name p done)

abbrev pub AreCounted : State → WaitingState → (k awaited : ℕ) → (done : List Entry) → Type 0
AreCounted s w k awaited done = (wait : WaitState) → asleep_at w.waits k ≡ Some wait → HasCounted s w k awaited wait done

-- Behind some entries, so many, more were counted: then they are so many.
abbrev pub CountsMore : State → (k : ℕ) → (old new : WaitingState) → (before count : ℕ) → List Entry → Type 0
CountsMore s k old new before count more =
    (awaited : ℕ) (done : List Entry) → before ≡ length done → AreCounted s old k awaited done
    → (count ≡ length (done ++ more)) × AreCounted s new k awaited (done ++ more)
