-- A member of a consumer group. Kafka's documentation, "Design", section "The Consumer" (members of a group
-- share the partitions of topics), and "Protocol Guide", JoinGroup (a member's protocols, each with metadata).
use Rattle.std.specs.Prelude.{ℕ, zero, suc, ◌+◌, ◌/◌, ◌%◌, ◌==◌, nat_lt, Bool, true, false, List, [], ◌∷◌, ◌++◌, length, codes, if◌then◌else◌}
use Rattle.std.specs.List.{find, list_any, list_all, flat_map, sum_by}
use Rattle.std.specs.Option.{option_map_or}
use Rattle.std.specs.Str.{bytes_eq}
use Rattle.frame_fields.specs.Names.{is_topic_name}
use Rattle.group_coordinator.specs.declared.values.GroupError.{GroupError}
use Rattle.group_coordinator.specs.declared.values.Refusal.{Refusal}
use Rattle.group_coordinator.specs.declared.values.TheConstants.{MEMBER_BYTES, PROTOCOL_BYTES}
use Rattle.group_coordinator.specs.declared.values.Wait.{Wait}
use Rattle.group_coordinator.specs.declared.values.Wait.TheVariants.{No, Joins, Syncs, Told, Assigned}

-- A way of dividing partitions that a member knows, by its name, and what it tells the leader about itself.
pub record Protocol : Type 0 where
  pub name : List ℕ
  pub metadata : List ℕ

-- A member: the number by which it joined, among all that ever did; its id; its two timeouts; its protocols, the one that it
-- likes best first; what it waits for; until when it is thought alive if it isn't heard of; whether it was told of a generation;
-- and what its leader gave it last. Times are milliseconds.
pub record Member : Type 0 where
  pub number : ℕ
  pub id : List ℕ
  pub session : ℕ
  pub rebalance : ℕ
  pub protocols : List Protocol
  pub wait : Wait
  pub until : ℕ
  pub is_told : Bool
  pub part : List ℕ

-- ---- ids

-- a digit of base 16
abbrev pub hex_digit : ℕ → ℕ
hex_digit d = if nat_lt d 10 then 48 + d else 87 + d

-- a number in so many digits of base 16
abbrev pub hex : (width number : ℕ) → List ℕ
hex zero n = []
hex (suc w) n = hex w (n / 16) ++ hex_digit (n % 16) ∷ []

-- what stands for the client in an id: its own name, where it may be one of a topic
abbrev pub client_name : List ℕ → List ℕ
client_name client = if is_topic_name client then client else codes "member"

-- the id of a member of this client, at this start of the broker, that joined by this number
abbrev pub member_id : (client : List ℕ) → (start number : ℕ) → List ℕ
member_id client start n = client_name client ++ 45 ∷ (hex 16 start ++ 45 ∷ hex 16 n)

abbrev pub has_id : List ℕ → Member → Bool
has_id id m = bytes_eq m.id id

-- ---- what it waits for

-- its request waits for the others, or for its leader
abbrev pub is_joining : Wait → Bool
is_joining (Joins k) = true
is_joining w = false

abbrev pub is_syncing : Wait → Bool
is_syncing (Syncs k) = true
is_syncing w = false

-- its reply is ready
abbrev pub is_ready : Wait → Bool
is_ready (Told k) = true
is_ready (Assigned k) = true
is_ready w = false

-- whether its request waits, or its reply is ready, in this session
abbrev pub is_in : (session : ℕ) → Wait → Bool
is_in k No = false
is_in k (Joins j) = j == k
is_in k (Syncs j) = j == k
is_in k (Told j) = j == k
is_in k (Assigned j) = j == k

-- the refusal of a request that waits
abbrev pub refusal_of : GroupError → Wait → List Refusal
refusal_of e No = []
refusal_of e (Joins k) = record { session = k; error = e } ∷ []
refusal_of e (Syncs k) = record { session = k; error = e } ∷ []
refusal_of e (Told k) = record { session = k; error = e } ∷ []
refusal_of e (Assigned k) = record { session = k; error = e } ∷ []

abbrev pub refusals_of : GroupError → List Member → List Refusal
refusals_of e ms = flat_map (λ m. refusal_of e m.wait) ms

-- a member that was heard of now
abbrev pub beat : (now : ℕ) → Member → Member
beat now m = record m { until = now + m.session }

-- ---- protocols

abbrev pub knows : List ℕ → List Protocol → Bool
knows name ps = list_any (λ p. bytes_eq p.name name) ps

-- whether each of these members knows a protocol of this name
abbrev pub is_common : List Member → List ℕ → Bool
is_common ms name = list_all (λ m. knows name m.protocols) ms

-- the metadata of its first protocol of this name
abbrev pub metadata_of : List ℕ → Member → List ℕ
metadata_of name m = option_map_or (λ p. p.metadata) (find (λ p. bytes_eq p.name name) m.protocols) []

-- ---- room

abbrev pub protocol_bytes : Protocol → ℕ
protocol_bytes p = PROTOCOL_BYTES + length p.name + length p.metadata

-- the bytes that are counted for a member
abbrev pub member_bytes : Member → ℕ
member_bytes m = MEMBER_BYTES + length m.id + sum_by protocol_bytes m.protocols + length m.part
