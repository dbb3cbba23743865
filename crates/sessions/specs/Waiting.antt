-- Who waits, and who of them sleeps. How waits are kept is this project's own.
use Rattle.std.specs.Prelude.{◌≡◌, ⊤, ℕ, Bool, ◌&&◌, ℤ, ◌-◌, ◌*◌, ◌<◌, ◌≤◌, nat_eq, nat_le, List, [], ◌∷◌, ◌++◌, map, Option, Some, None, true, false, if◌then◌else◌}
use Rattle.std.specs.List.{All, list_any, position_or_len}
use Rattle.std.specs.Map.{keys_of, lookup}
use Rattle.std.specs.Option.{option_and_then, option_map, option_map_or}
use Rattle.broker_state.specs.declared.place.Place.{Place}
use Rattle.sessions.specs.declared.waits.PartitionKey.{PartitionKey}
use Rattle.sessions.specs.declared.waits.Share.{Share}
use Rattle.sessions.specs.declared.waits.Growth.{Growth}

-- ---- partitions

-- the same partition
abbrev pub is_same_key : PartitionKey → PartitionKey → Bool
is_same_key x y = nat_eq x.topic y.topic && nat_eq x.partition y.partition

-- of a place, and of a key the place
abbrev pub key_of : Place → PartitionKey
key_of place = record { topic = place.topic; partition = place.partition }

abbrev pub place_of : PartitionKey → Place
place_of key = record { topic = key.topic; partition = key.partition }

-- ---- sessions

-- What a session waits for: when its time is over, and its number; its partitions; how many bytes are missing; how many of its
-- entries, from the first on, any more bytes make due; and whether it was named, and not visited since.
pub record WaitState : Type 0 where
  pub due : ℕ × ℕ
  pub places : List PartitionKey
  pub missing : ℕ
  pub forced : ℕ
  pub is_named : Bool

-- those of all sessions, each with its number; so many of the first of them are woken
pub record WaitsState : Type 0 where
  pub entries : List (ℕ × WaitState)
  pub woken : ℕ

-- what the session with a number waits for, if it waits
abbrev pub wait_at : WaitsState → ℕ → Option WaitState
wait_at w k = lookup (nat_eq k) w.entries

-- whether its number stands behind those that are woken
abbrev pub is_behind : WaitsState → ℕ → Bool
is_behind w k = nat_le w.woken (position_or_len (nat_eq k) (keys_of w.entries))

-- if it wasn't named
abbrev pub unnamed : WaitState → Option WaitState
unnamed wait = if wait.is_named then None else Some wait

-- what the session with a number waits for, if it wasn't named since it came
abbrev pub unnamed_at : WaitsState → ℕ → Option WaitState
unnamed_at w k = option_and_then unnamed (wait_at w k)

-- whether the session with a number waits for a partition
abbrev pub waits_for : WaitsState → ℕ → PartitionKey → Bool
waits_for w k key = option_map_or (λ wait. list_any (is_same_key key) wait.places) (wait_at w k) false

-- whether the session with a number was named, if it waits
abbrev pub named_at : WaitsState → ℕ → Option Bool
named_at w k = option_map (λ wait. wait.is_named) (wait_at w k)

-- all that wait, each with whether it was named
abbrev pub names_of : WaitsState → List (ℕ × Bool)
names_of w = map (λ e. (e.0, e.1.is_named)) w.entries

-- what a session waits for that is behind, if it sleeps: it waits, and wasn't named
abbrev pub asleep_if : Bool → Option WaitState → Option WaitState
asleep_if true wait = option_and_then unnamed wait
asleep_if false wait = None

-- what the session with a number waits for, if it sleeps: it waits, and is neither woken nor named
abbrev pub asleep_at : WaitsState → ℕ → Option WaitState
asleep_at w k = asleep_if (is_behind w k) (wait_at w k)

-- none that is woken was named since it came
abbrev pub NoneWokenIsNamed : WaitsState → Type 0
NoneWokenIsNamed w = (k : ℕ) (wait : WaitState) → wait_at w k ≡ Some wait → is_behind w k ≡ false → wait.is_named ≡ false

-- where a session stands more
abbrev pub with_place : PartitionKey → WaitState → WaitState
with_place place wait = record wait { places = wait.places ++ place ∷ [] }

-- once so many bytes were found for one of its entries, of which a limit leaves such a room
abbrev pub with_entry : (bytes : ℕ) (room : Option ℕ) (entry : ℕ) → WaitState → WaitState
with_entry bytes None entry wait = record wait { missing = wait.missing - bytes; forced = entry }
with_entry bytes (Some room) entry wait = record wait { missing = wait.missing - bytes }

-- when its time is over, whether it was named, and its partitions
abbrev pub kept : WaitState → (ℕ × ℕ) × Bool × List PartitionKey
kept wait = (wait.due, wait.is_named, wait.places)

-- once it was named
abbrev pub named : WaitState → WaitState
named wait = record wait { is_named = true }

-- Where a partition grew so, of which a session has a share, too little is there still, no batch is left out, and no batch was
-- forced there or behind it.
abbrev pub GoesOn : WaitState → Share → Growth → Type 0
GoesOn wait share growth =
    (growth.more * share.entries < wait.missing) × (growth.grown ≤ share.upto) × (wait.forced < share.first)

-- what came is missing no more
abbrev pub less_missing : WaitState → Share → Growth → WaitState
less_missing wait share growth = record wait { missing = wait.missing - growth.more * share.entries }

-- Whoever sleeps behind a growth of a partition slept before, the growth is known, and it goes on.
abbrev pub SleepsOn : Share → Option Growth → (old new : Option WaitState) → Type 0
SleepsOn share growth old None = ⊤
SleepsOn share (Some growth) (Some old) (Some new) = GoesOn old share growth × (new ≡ less_missing old share growth)
SleepsOn share growth old (Some new) = ⊥

-- ---- where they wait

-- those that wait for a partition: where its log ended when it was counted, by how much it grew since the first of them came, and
-- what each waits for there
pub record StandState : Type 0 where
  pub end : ℤ
  pub grown : ℕ
  pub shares : List (ℕ × Share)

-- all that is known of who waits; the first of the partitions are those that a request may change, so many
pub record WaitingState : Type 0 where
  pub waits : WaitsState
  pub stands : List (PartitionKey × StandState)
  pub marked : ℕ
  pub times : List (ℕ × ℕ)

-- who waits for a partition, if any
abbrev pub stand_at : WaitingState → PartitionKey → Option StandState
stand_at w key = lookup (is_same_key key) w.stands

-- what a session waits for there
abbrev pub share_in : StandState → ℕ → Option Share
share_in stand k = lookup (nat_eq k) stand.shares

-- what a session waits for at a partition, if it stands there
abbrev pub share_at : WaitingState → PartitionKey → ℕ → Option Share
share_at w key k = option_and_then (λ stand. share_in stand k) (stand_at w key)

-- a session stands at none of these partitions
abbrev pub StandsAtNone : ℕ → List PartitionKey → WaitingState → Type 0
StandsAtNone k keys w = All (λ key. share_at w key k ≡ None) keys

-- Whoever stands at a partition waits for it: who doesn't has no share there.
pub record StandersWait (w : WaitingState) : Type 0 where
  pub none : (key : PartitionKey) (k : ℕ) → waits_for w.waits k key ≡ false → share_at w key k ≡ None
