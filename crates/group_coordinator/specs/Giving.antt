-- How parts are given: what a map of the last entries says, what members get, and a move by which no member goes.
use Rattle.std.specs.Prelude.{◌≡◌, ◌≤◌, ℕ, ◌+◌, ◌-◌, ◌&&◌, not, nat_lt, Bool, List, [], ◌∷◌, map, length, get_or, slice_set, Option, Some, None, nat_eq, if◌then◌else◌}
use Rattle.std.specs.List.{filter, sum_by}
use Rattle.std.specs.Option.{option_map_or}
use Rattle.std.specs.Borrow.{Bor}
use Rattle.std.specs.Cmp.Lexicographic.{pointwise}
use Rattle.indexmap.specs.IndexMap as index
use Rattle.group_coordinator.specs.declared.values.GroupError.{GroupError}
use Rattle.group_coordinator.specs.declared.values.GroupError.TheVariants.{Rebalancing}
use Rattle.group_coordinator.specs.declared.values.Phase.{Phase}
use Rattle.group_coordinator.specs.declared.values.TheConstants.{MOST_BYTES}
use Rattle.group_coordinator.specs.declared.values.Wait.{Wait}
use Rattle.group_coordinator.specs.declared.values.Wait.TheVariants.{Syncs, Assigned}
use Rattle.group_coordinator.specs.Members.{Member, has_id, is_syncing, refusals_of}
use Rattle.group_coordinator.specs.Groups.{Group, Move, is_stable}
use Rattle.group_coordinator.specs.Requests.{Part}
use Rattle.group_coordinator.specs.Requests.Reply.{Refused}
use Rattle.group_coordinator.specs.Joining.{part_of, is_led_by, assigned_wait, called, waits, with_member}
use Rattle.group_coordinator.specs.Coordinators.{Groups, Answered, at_once, release}
use Rattle.group_coordinator.specs.Doing.{Noted, refusing, pending_of}

-- borrowed bytes
abbrev pub Borrowed : Type 0
Borrowed = Bor (List ℕ)

abbrev pub borrowed_eq : Borrowed → Borrowed → Bool
borrowed_eq x y = pointwise nat_eq x.now y.now

-- the bytes that were found; none where nothing was
abbrev pub bytes_of : Option Borrowed → List ℕ
bytes_of found = option_map_or (λ b. b.now) found []

-- no id stands twice in the map, and it has for each id the part of the last entry
pub record GivesLast {S : Type 0} (m : index.IndexMap Borrowed Borrowed S) (ps : List Part) : Type 0 where
  pub unique : index.IsUnique borrowed_eq m
  pub each : (q : Borrowed) → bytes_of (index.get borrowed_eq m q) ≡ part_of ps q.now

-- what each of these members gets
abbrev pub parts_for : List Part → List Member → List (List ℕ)
parts_for ps ms = map (λ m. part_of ps m.id) ms

-- the bytes of what they have
abbrev pub part_lengths : List Member → ℕ
part_lengths ms = sum_by (λ m. length m.part) ms

-- the first of a list was taken out, if there was one
abbrev pub TakesFirst : List (List ℕ) → List (List ℕ) → Option (List ℕ) → Type 0
TakesFirst old new None = (old ≡ []) × (new ≡ [])
TakesFirst old new (Some x) = old ≡ x ∷ new

-- a member that gets this part
abbrev pub with_part : (now : ℕ) → List ℕ → Member → Member
with_part now p m = record m {
  part = p;
  wait = assigned_wait m.wait;
  until = if is_syncing m.wait then now + m.session else m.until;
}

-- whether this member, which asks for its part, gives all theirs
abbrev pub gives : List ℕ → Group → Bool
gives id g = not (is_stable g.phase) && is_led_by id g

-- What a request for a part comes to: the bytes that are counted for all groups behind it, and the parts that members get.
pub record Planned : Type 0 where
  pub bytes : ℕ
  pub given : Option (List (List ℕ))

-- the parts that members get, if any
abbrev pub parts_by : (id : List ℕ) → List Part → Group → Option (List (List ℕ))
parts_by id ps g = if gives id g then Some (parts_for ps g.members) else None

-- the bytes that are counted for all groups once each member has its part, where so many are counted before
abbrev pub bytes_of_parts : (bytes : ℕ) → List Part → Group → ℕ
bytes_of_parts bytes ps g = sum_by length (parts_for ps g.members) + (bytes - part_lengths g.members)

-- what parts come to, where there is room
abbrev pub plan_of : (bytes : ℕ) → List Part → Group → Option Planned
plan_of bytes ps g =
    if nat_lt MOST_BYTES (bytes_of_parts bytes ps g) then None
    else Some (record { bytes = bytes_of_parts bytes ps g; given = Some (parts_for ps g.members) })

-- what it comes to, where there is room
abbrev pub plan_by : (bytes : ℕ) → (id : List ℕ) → List Part → Group → Option Planned
plan_by bytes id ps g = if gives id g then plan_of bytes ps g else Some (record { bytes = bytes; given = None })

-- what a member that asks for its part waits for
abbrev pub sync_wait : (session : ℕ) → Phase → Wait
sync_wait k p = if is_stable p then Assigned k else Syncs k

-- A member asked for its part: who waited for it is refused, and it waits.
pub record Asks (now session : ℕ) (id : List ℕ) (l k : Noted) (g h : Group) : Type 0 where
  pub noted : k ≡ refusing l (refusals_of Rebalancing (filter (has_id id) g.members))
  pub group : h ≡ with_member id (waits (sync_wait session g.phase)) (with_member id (called now) g)

-- A move was done by which no member goes and no generation begins. All members may wait behind it.
pub record DoesStaying (a : Move) (l k : Noted) (g h : Group) : Type 0 where
  pub group : h ≡ (a l.generations g).group
  pub noted : k ≡ refusing l (a l.generations g).refusals
  pub generations : (a l.generations g).generations ≡ l.generations
  pub room : length (a l.generations g).refusals + pending_of h.members ≤ pending_of g.members + length g.members
  pub name : h.name ≡ g.name
  pub generation : h.generation ≡ g.generation
  pub count : length h.members ≡ length g.members

-- The same of the group at an index.
abbrev pub DoesStayingAt : Move → Noted → Noted → ℕ → List Group → List Group → Type 0
DoesStayingAt a l k i gs hs = (g : Group) → g ≡ get_or gs i g → (h : Group) × DoesStaying a l k g h × (hs ≡ slice_set gs i h)

-- what a request is replied, where it is refused or may wait
abbrev pub reply_by : Option GroupError → (session : ℕ) → Groups → Answered
reply_by None k v = release k v
reply_by (Some e) k v = at_once (Refused e) v
