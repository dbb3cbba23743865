-- Who sleeps, and that all who sleep wait on: what their shares of partitions say. Words of private clauses.
use Rattle.std.specs.Prelude.{◌≡◌, ◌≢◌, ⊤, ℕ, ℤ, ◌+◌, ◌<◌, ◌≤◌, Bool, true, false, ◌&&◌, nat_eq, bytes_eq, List, [], ◌∷◌, take, Option, Some, if◌then◌else◌}
use Rattle.std.specs.List.{list_any}
use Rattle.std.specs.Map.{keys_of}
use Rattle.std.specs.Ordering.{int_eq}
use Rattle.content.specs.Content.{end}
use Rattle.frame_fields.specs.Types.{TopicOf}
use Rattle.frame_fields.specs.Frames.{IsFirstFrame}
use Rattle.request_frames.specs.Fetch.{FetchValue, FetchPartitionValue}
use Rattle.request_frames.specs.Requests.{RequestValue, IsRequest}
use Rattle.request_frames.specs.Requests.BodyValue.{fetch}
use Rattle.broker_state.specs.declared.place.Place.{Place}
use Rattle.broker_state.specs.Places.{IsPlaceOf}
use Rattle.broker_state.specs.State.{State, content_at, is_known}
use Rattle.broker_node.specs.Effects.{TopicPartition, is_among}
use Rattle.log_requests.specs.Fetch.{fetch_limit}
use Rattle.fetch_waits.specs.Sleeping.{Contents, FitsRoom, GrowsBy, Sleeps, is_asked, there_at}
use Rattle.sessions.specs.declared.waits.PartitionKey.{PartitionKey}
use Rattle.sessions.specs.declared.waits.Share.{Share}
use Rattle.sessions.specs.declared.waiting.Noted.{Noted}
use Rattle.sessions.specs.declared.waiting.Noted.TheVariants.{Grows}
use Rattle.sessions.specs.Waiting.{StandState, StandersWait, WaitState, WaitingState, WaitsState, asleep_at, is_same_key, key_of, named_at, share_in, stand_at, wait_at}
use Rattle.sessions.specs.Turns.{SessionState}

-- ---- what one session stands for

-- how many of some entries of a topic are of a partition
abbrev pub count_of : (name : List ℕ) (partition : ℤ) → (topic : List ℕ) → List FetchPartitionValue → ℕ
count_of name p topic [] = 0
count_of name p topic (e ∷ es) = (if bytes_eq topic name && int_eq e.partition p then 1 else 0) + count_of name p topic es

abbrev pub count_in : (name : List ℕ) (partition : ℤ) → List (TopicOf FetchPartitionValue) → ℕ
count_in name p [] = 0
count_in name p (t ∷ ts) = count_of name p t.name t.entries + count_in name p ts

-- A session stands for a partition: its share counts all its entries of it, and as far as the share lets the partition grow, that
-- fits the room.
pub record Stands (s : State) (w : WaitingState) (k forced : ℕ) (q : FetchValue) (room : List ℕ → ℤ → Option ℕ) (name : List ℕ) (p : ℤ) : Type 0 where
  pub place : Place
  pub stand : StandState
  pub share : Share
  pub is_place : IsPlaceOf s name p place
  pub stand_is : stand_at w (key_of place) ≡ Some stand
  pub share_is : share_in stand k ≡ Some share
  pub entries : count_in name p q.topics ≤ share.entries
  pub fits : (more : ℕ) → forced < share.first → stand.grown + more ≤ share.upto → FitsRoom more (room name p)

-- A session waits on, whatever its partitions grow by within what its shares allow, where they hold this.
pub record WaitsOn (s : State) (now : Contents) (w : WaitingState) (k : ℕ) (wait : WaitState) (q : FetchValue) : Type 0 where
  pub room : List ℕ → ℤ → Option ℕ
  pub some : 0 < wait.missing
  pub sleeps : Sleeps s now q wait.missing room
  pub stands : (name : List ℕ) (p : ℤ) → is_asked q name p ≡ true → Stands s w k wait.forced q room name p

-- ---- all

-- each partition for which anyone waits ends where it was counted
abbrev pub EndsAre : State → Contents → WaitingState → Type 0
EndsAre s now w = (name : List ℕ) (p : ℤ) (place : Place) (stand : StandState)
    → IsPlaceOf s name p place → stand_at w (key_of place) ≡ Some stand → stand.end ≡ end (now name p)

-- a time is one of these
abbrev pub has_time : ℕ × ℕ → List (ℕ × ℕ) → Bool
has_time due times = list_any (λ time. nat_eq due.0 time.0 && nat_eq due.1 time.1) times

-- All who sleep wait on, where the partitions hold this, and each asks for this; their times are known, and whoever stands at a
-- partition waits for it.
pub record AllWaitOn (s : State) (now : Contents) (w : WaitingState) (asked : ℕ → FetchValue) : Type 0 where
  pub ends : EndsAre s now w
  pub each : (k : ℕ) (wait : WaitState) → asleep_at w.waits k ≡ Some wait → WaitsOn s now w k wait (asked k)
  pub own : (k : ℕ) (wait : WaitState) → wait_at w.waits k ≡ Some wait → wait.due.1 ≡ k
  pub times : (k : ℕ) (wait : WaitState) → asleep_at w.waits k ≡ Some wait → has_time wait.due w.times ≡ true
  pub standers : StandersWait w

-- the first frame that is held is this Fetch
pub record AsksFirst (held : List ℕ) (q : FetchValue) : Type 0 where
  pub frame : List ℕ
  pub rest : List ℕ
  pub request : RequestValue
  pub first : IsFirstFrame frame held rest
  pub reads : IsRequest frame request
  pub is_fetch : request.body ≡ fetch q

-- ---- one session, and the others

-- a session that sleeps asks for this, until its time
abbrev pub IsOwn : (k : ℕ) → WaitsState → SessionState → FetchValue → Type 0
IsOwn k waits session q =
    (wait : WaitState) → asleep_at waits k ≡ Some wait → AsksFirst session.held q × (session.due ≡ Some wait.due.0)

-- all who sleep wait on, and one of the sessions is this one
pub record Watches (k : ℕ) (s : State) (w : WaitingState) (session : SessionState) (asked : ℕ → FetchValue) : Type 0 where
  pub wait_on : AllWaitOn s (content_at s) w asked
  pub own : IsOwn k w.waits session (asked k)

-- Where all who slept waited on, those who sleep now do; each other session asks for what it asked for.
abbrev pub KeepsWatch : (k : ℕ) → State → WaitingState → SessionState → State → WaitingState → SessionState → Type 0
KeepsWatch k s w session s' w' session' = (asked : ℕ → FetchValue) → Watches k s w session asked
    → (asked' : ℕ → FetchValue) × ((j : ℕ) → j ≢ k → asked' j ≡ asked j) × Watches k s' w' session' asked'

-- Each other session waits, and was named, as it did and was; whoever sleeps slept before, until the same time.
pub record OthersWait (k : ℕ) (old new : WaitsState) : Type 0 where
  pub named : (j : ℕ) → j ≢ k → named_at new j ≡ named_at old j
  pub slept : (j : ℕ) (wait : WaitState) → j ≢ k → asleep_at new j ≡ Some wait
      → (was : WaitState) × (asleep_at old j ≡ Some was) × (wait.due ≡ was.due)

-- ---- a request's changes

-- a partition is one of the first, which are marked
abbrev pub is_marked : WaitingState → PartitionKey → Bool
is_marked w key = list_any (is_same_key key) (take w.marked (keys_of w.stands))

-- The partitions that a request may change, and for which anyone waits, are marked.
abbrev pub AreMarked : State → WaitingState → List TopicPartition → Type 0
AreMarked s w ps = (name : List ℕ) (p : ℤ) (place : Place) (stand : StandState)
    → is_among ps name p ≡ true → IsPlaceOf s name p place → stand_at w (key_of place) ≡ Some stand → is_marked w (key_of place) ≡ true

-- What a request leaves: no other partition is changed, and where it only appends or cleans each has grown, by nothing or more.
pub record Leaves (s : State) (noted : Noted) (ps : List TopicPartition) (after : State) : Type 0 where
  pub config : after.config ≡ s.config
  pub known : (name : List ℕ) (p : ℤ) → is_known after name p ≡ is_known s name p
  pub places : (name : List ℕ) (p : ℤ) (place : Place) → IsPlaceOf after name p place → IsPlaceOf s name p place
  pub places_too : (name : List ℕ) (p : ℤ) (place : Place) → IsPlaceOf s name p place → IsPlaceOf after name p place
  pub others : (name : List ℕ) (p : ℤ) → is_among ps name p ≡ false → content_at after name p ≡ content_at s name p
  pub grows : noted ≡ Grows → (name : List ℕ) (p : ℤ) → (more : ℕ) × GrowsBy (content_at s name p) (content_at after name p) more

-- ---- how the shares of a session are counted

-- A share covers an entry, the one with this number among all.
pub record Covers (s : State) (w : WaitingState) (k forced number : ℕ) (name : List ℕ) (e : FetchPartitionValue) : Type 0 where
  pub place : Place
  pub stand : StandState
  pub share : Share
  pub is_place : IsPlaceOf s name e.partition place
  pub stand_is : stand_at w (key_of place) ≡ Some stand
  pub share_is : share_in stand k ≡ Some share
  pub first : share.first ≤ number
  pub limit : forced < number → there_at s name e ≤ fetch_limit e.max_bytes
  pub room : forced < number → share.upto + there_at s name e ≤ stand.grown + fetch_limit e.max_bytes
