-- What a Fetch that waits stands without being due: how much its partitions may grow. Kafka's documentation, "Protocol Guide",
-- section "The Messages" (max_wait_ms, min_bytes and max_bytes of Fetch).
use Rattle.std.specs.Prelude.{◌≡◌, ⊤, ◌⊎◌, ℕ, ℤ, ◌+◌, ◌<◌, ◌≤◌, ◌≤ℤ◌, bytes_eq, Bool, ◌&&◌, true, List, [], ◌∷◌, ◌++◌, length, Option, Some, None}
use Rattle.std.specs.List.{flat_map, list_any}
use Rattle.std.specs.Ordering.{int_eq}
use Rattle.batch_codec.specs.Values.{BatchValue}
use Rattle.batch_codec.specs.Grammar.{batch_encoding}
use Rattle.batch_codec.specs.Offsets.{last_offset}
use Rattle.content.specs.Content.{Content, end}
use Rattle.frame_fields.specs.Types.{TopicOf}
use Rattle.request_frames.specs.Fetch.{FetchValue, FetchPartitionValue}
use Rattle.broker_state.specs.State.{State, content_at, is_known}
use Rattle.log_requests.specs.Fetch.{fetch_limit}
use Rattle.fetch_waits.specs.Waiting.{bytes_from, fetch_waits}

-- what each partition holds, by its topic's name and its number
abbrev pub Contents : Type 0
Contents = List ℕ → ℤ → Content

-- by how many bytes each grew at most
abbrev pub Growths : Type 0
Growths = List ℕ → ℤ → ℕ

-- all these batches end at an offset, or behind it
abbrev pub AreBehind : ℤ → List BatchValue → Type 0
AreBehind offset [] = ⊤
AreBehind offset (b ∷ bs) = (offset ≤ℤ last_offset b) × AreBehind offset bs

-- what is left of a batch: it has its head, and no more bytes
pub record IsLeftOf (x b : BatchValue) : Type 0 where
  pub head : x.head ≡ b.head
  pub bytes : length (batch_encoding x) ≤ length (batch_encoding b)

-- what is left of some batches, in their order: of each one batch, or nothing
abbrev pub AreLeftOf : (left bs : List BatchValue) → Type 0
AreLeftOf [] bs = ⊤
AreLeftOf (x ∷ xs) [] = ⊥
AreLeftOf (x ∷ xs) (b ∷ bs) = (IsLeftOf x b × AreLeftOf xs bs) ⊎ AreLeftOf (x ∷ xs) bs

-- A log grew by no more than so many bytes: batches came at its end. Of those before records may be gone, as behind a cleaning.
pub record GrowsBy (old new : Content) (more : ℕ) : Type 0 where
  pub left : List BatchValue
  pub batches : List BatchValue
  pub start : new.start ≡ old.start
  pub are_left : AreLeftOf left old.kept
  pub kept : new.kept ≡ left ++ batches
  pub behind : AreBehind (end old) batches
  pub ends : end old ≤ℤ end new
  pub bytes : length (flat_map batch_encoding batches) ≤ more

-- a Fetch asks for a partition
abbrev pub is_asked : FetchValue → (name : List ℕ) → (partition : ℤ) → Bool
is_asked q name partition =
    list_any (λ t. bytes_eq t.name name && list_any (λ e. int_eq e.partition partition) t.entries) q.topics

-- Where the partitions for which a Fetch asks held this, nothing of them changed but that they were cleaned and their logs grew.
pub record Grows (q : FetchValue) (s : State) (held : Contents) (t : State) (by : Growths) : Type 0 where
  pub config : t.config ≡ s.config
  pub known : (name : List ℕ) (p : ℤ) → is_known t name p ≡ is_known s name p
  pub each : (name : List ℕ) (p : ℤ) → is_asked q name p ≡ true → GrowsBy (held name p) (content_at t name p) (by name p)

-- how many bytes more are then there for some entries, and for all
abbrev pub more_of : List ℕ → Growths → List FetchPartitionValue → ℕ
more_of name by [] = 0
more_of name by (e ∷ es) = by name e.partition + more_of name by es

abbrev pub more_in : Growths → List (TopicOf FetchPartitionValue) → ℕ
more_in by [] = 0
more_in by (t ∷ ts) = more_of t.name by t.entries + more_in by ts

-- a partition grows by nothing, or by no more than it may, if it may at all
abbrev pub FitsRoom : (more : ℕ) → (room : Option ℕ) → Type 0
FitsRoom more None = more ≡ 0
FitsRoom more (Some room) = more ≤ room

-- Where its partitions hold this, a Fetch sleeps while so many bytes are missing, and each partition has such a room: whatever
-- they grow by, if that is less than is missing, and each grows within its room, it waits.
abbrev pub Sleeps : State → Contents → FetchValue → (missing : ℕ) → (room : List ℕ → ℤ → Option ℕ) → Type 0
Sleeps s held q missing room =
    (t : State) (by : Growths) → Grows q s held t by → more_in by q.topics < missing
    → ((name : List ℕ) (p : ℤ) → is_asked q name p ≡ true → FitsRoom (by name p) (room name p)) → fetch_waits t q ≡ true

-- ---- how the rooms are counted

-- how many bytes are there for an entry
abbrev pub there_at : State → List ℕ → FetchPartitionValue → ℕ
there_at s name e = length (bytes_from (content_at s name e.partition) e.offset)

abbrev pub there_of : State → List ℕ → List FetchPartitionValue → ℕ
there_of s name [] = 0
there_of s name (e ∷ es) = there_at s name e + there_of s name es

abbrev pub there_in : State → List (TopicOf FetchPartitionValue) → ℕ
there_in s [] = 0
there_in s (t ∷ ts) = there_of s t.name t.entries + there_in s ts

-- an entry's limit allows what is there, and the room of its partition behind it
abbrev pub Allows : (limit there : ℕ) → (room : Option ℕ) → Type 0
Allows limit there None = there ≤ limit
Allows limit there (Some room) = there + room ≤ limit

-- Behind so many entries: the first of all, up to a forced one, have no room; each other's limit allows its room.
abbrev pub RoomsOf : State → (room : List ℕ → ℤ → Option ℕ) → List ℕ → (forced before : ℕ) → List FetchPartitionValue → Type 0
RoomsOf s room name forced before [] = ⊤
RoomsOf s room name forced before (e ∷ es) =
    (before < forced → room name e.partition ≡ None)
    × (forced ≤ before → Allows (fetch_limit e.max_bytes) (there_at s name e) (room name e.partition))
    × RoomsOf s room name forced (before + 1) es

abbrev pub RoomsIn : State → (room : List ℕ → ℤ → Option ℕ) → (forced before : ℕ) → List (TopicOf FetchPartitionValue) → Type 0
RoomsIn s room forced before [] = ⊤
RoomsIn s room forced before (t ∷ ts) =
    RoomsOf s room t.name forced before t.entries × RoomsIn s room forced (before + length t.entries) ts
