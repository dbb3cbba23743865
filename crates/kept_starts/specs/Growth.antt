-- What a start adds to a broker: topics and partitions that are asked for beside those that its snapshot has. Kafka's documentation,
-- "Operations", section "Modifying topics" (partitions are added; none is taken away).
use Rattle.std.specs.Prelude.{◌≡◌, ℕ, ℤ, Bool, true, false, nat_lt, is_some, List, Option, Some, None, MatchOption}
use Rattle.std.specs.List.{list_any}
use Rattle.std.specs.Option.{unwrap_or}
use Rattle.content.specs.Content.{Content, empty}
use Rattle.broker_state.specs.State.{ConfigValue, State, partition_at}
use Rattle.exact_replies.specs.SameHeld.{partitions_named}
use Rattle.snapshots.specs.Heads.{SnapshotValue}
use Rattle.state_snapshots.specs.Snapshots.{AreCounted, IsReadable, role_number}
use Rattle.data_directory.specs.declared.names.Name.TheVariants.{Snapshot}
use Rattle.data_directory.specs.Directories.{DirectoryState, IsThere}
use Rattle.kept_rotations.specs.Moments.{id_of}
use Rattle.kept_starts.specs.declared.snapshot.Shape.{Shape}
use Rattle.kept_starts.specs.declared.snapshot.Shape.TheVariants.{Former, Asked}

-- ---- what is asked for

-- how many partitions a configuration has of a topic; none where it has no such topic
abbrev pub partitions_said : ConfigValue → List ℕ → ℕ
partitions_said g name = unwrap_or (partitions_named g.topics name) 0

-- whether more partitions are asked for of some topic than a configuration has
abbrev pub asks_more : (asked had : ConfigValue) → Bool
asks_more asked had = list_any (λ t. nat_lt (partitions_said had t.name) t.partitions) asked.topics

-- A broker with this configuration is to its partitions what was asked for, and has the topics that were.
pub record HasTopicsOf (asked config : ConfigValue) : Type 0 where
  pub role : config.role ≡ asked.role
  pub topics : config.topics ≡ asked.topics

-- whether the broker of a snapshot is set up as that says: where more is asked for, and it comes later
abbrev pub takes_its_own : Shape → (is_grown : Bool) → Bool
takes_its_own Former is_grown = is_grown
takes_its_own Asked is_grown = false

-- The broker of a snapshot with this head has this configuration: the role is that which is asked for, and so are the topics; but where the
-- snapshot's own are taken more is asked for than these.
pub record IsSetUp (asked : ConfigValue) (shape : Shape) (is_grown : Bool) (head : SnapshotValue) (config : ConfigValue) : Type 0 where
  pub role : head.role ≡ role_number asked.role
  pub as_asked : takes_its_own shape is_grown ≡ false → HasTopicsOf asked config
  pub as_before : takes_its_own shape is_grown ≡ true → asks_more asked config ≡ true

-- ---- what a broker holds more

-- where there is such a partition, nothing is in it
abbrev pub IsEmptyThere : Option Content → Type 0
IsEmptyThere None = Unit {0}
IsEmptyThere (Some c) = c ≡ empty

-- The other broker holds, in the same role, all that the first one holds. What it has beside that is empty.
pub record HoldsMore (s t : State) : Type 0 where
  pub role : s.config.role ≡ t.config.role
  pub next_producer : s.next_producer ≡ t.next_producer
  pub contents : (name : List ℕ) (p : ℤ) → MatchOption (partition_at s name p) (IsEmptyThere (partition_at t name p)) (λ c. partition_at t name p ≡ Some c)

-- ---- where that is known

-- Of each directory of a kind the bytes of the snapshots are known that are there, and of each file those that it has.
pub record KnowsSnapshots {X F : Type 0} (state : X → DirectoryState) (seen : F → Option (List ℕ)) : Type 0 where
  pub snapshots : (d : X) (number : ℕ) → IsThere (state d) (Snapshot number) true → is_some ((state d).bytes number) ≡ true
  pub files : (file : F) → is_some (seen file) ≡ true

-- What the broker holds can be read again, whichever snapshot of it is written: its head says what it should, and its images can count what they
-- have.
pub record CanBeReadAgain (s : State) : Type 0 where
  pub counted : AreCounted s
  pub readable : (number : ℕ) (key : List ℕ) → IsReadable (id_of number key) s

-- where that is so, and bytes are known, the other broker holds more
abbrev pub HoldsStill : (knows : Type 0) → State → State → Type 0
HoldsStill knows s t = knows → CanBeReadAgain s → HoldsMore s t
