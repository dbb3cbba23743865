-- A group, and what may happen to it. Kafka's documentation, "Design", section "The Consumer", and "Configuration", section
-- "Consumer Configs", session.timeout.ms, max.poll.interval.ms and heartbeat.interval.ms (who isn't heard of in time is no
-- member any more, and the others share anew).
use Rattle.std.specs.Prelude.{ℕ, ◌+◌, ◌==◌, ◌&&◌, ◌||◌, not, nat_lt, nat_le, max, Bool, true, false, List, [], ◌∷◌, ◌++◌, map, length, if◌then◌else◌, slice_get}
use Rattle.std.specs.List.{find, list_any, list_all, filter, fold, position_or_len, sum_by}
use Rattle.std.specs.Option.{option_map_or}
use Rattle.group_coordinator.specs.declared.values.GroupError.TheVariants.{UnknownMember, Rebalancing}
use Rattle.group_coordinator.specs.declared.values.Phase.{Phase}
use Rattle.group_coordinator.specs.declared.values.Phase.TheVariants.{Preparing, Completing, Stable}
use Rattle.group_coordinator.specs.declared.values.Refusal.{Refusal}
use Rattle.group_coordinator.specs.declared.values.Settings.{Settings}
use Rattle.group_coordinator.specs.declared.values.TheConstants.{MOST_GENERATION}
use Rattle.group_coordinator.specs.declared.values.Wait.{Wait}
use Rattle.group_coordinator.specs.declared.values.Wait.TheVariants.{No, Joins, Told}
use Rattle.group_coordinator.specs.Members.{Protocol, Member, is_joining, is_syncing, refusals_of, is_common, metadata_of, member_bytes}

-- A group: its name; its kind, as "consumer"; the number of its generation, 0 before the first; what it is about; the number of
-- the member that leads it, and which of that member's protocols it follows; its members, by age.
pub record Group : Type 0 where
  pub name : List ℕ
  pub kind : List ℕ
  pub generation : ℕ
  pub phase : Phase
  pub leader : ℕ
  pub protocol : ℕ
  pub members : List Member

-- a group before its first member
abbrev pub new_group : (name kind : List ℕ) → Group
new_group name kind = record { name = name; kind = kind; generation = 0; phase = Stable; leader = 0; protocol = 0; members = [] }

-- What becomes of a group: the group; how many generations there were, of all groups; whose requests that waited are refused.
pub record Moved : Type 0 where
  pub group : Group
  pub generations : ℕ
  pub refusals : List Refusal

-- A move of a group, behind so many generations.
abbrev pub Move : Type 0
Move = ℕ → Group → Moved

abbrev pub stays : Move
stays n g = record { group = g; generations = n; refusals = [] }

-- what a move refused before is refused as well
abbrev pub behind : List Refusal → Moved → Moved
behind before m = record m { refusals = before ++ m.refusals }

-- a move of what another one left
abbrev pub goes_on : Move → Moved → Moved
goes_on b m = behind m.refusals (b m.generations m.group)

-- one move, and another one on what it leaves
abbrev pub and_then : Move → Move → Move
and_then a b n g = goes_on b (a n g)

-- ---- who leads, and what is told

abbrev pub is_numbered : (number : ℕ) → Member → Bool
is_numbered n m = m.number == n

abbrev pub is_leader : Group → Member → Bool
is_leader g m = is_numbered g.leader m

-- the protocols of the member with this number
abbrev pub protocols_of : (number : ℕ) → List Member → List Protocol
protocols_of n ms = option_map_or (λ m. m.protocols) (find (is_numbered n) ms) []

-- the name of the protocol that a group follows
abbrev pub protocol_name : Group → List ℕ
protocol_name g = option_map_or (λ p. p.name) (slice_get (protocols_of g.leader g.members) g.protocol) []

-- the id of its leader
abbrev pub leader_id : Group → List ℕ
leader_id g = option_map_or (λ m. m.id) (find (is_leader g) g.members) []

-- A member, as its leader is told of it.
pub record Listed : Type 0 where
  pub id : List ℕ
  pub metadata : List ℕ

-- What a member is told by which it is one of a generation.
pub record JoinReply : Type 0 where
  pub generation : ℕ
  pub protocol : List ℕ
  pub leader : List ℕ
  pub member : List ℕ
  pub members : List Listed

-- the list for the leader; the others get an empty one
abbrev pub listed : Group → Member → List Listed
listed g m =
    if is_leader g m then map (λ x. record { id = x.id; metadata = metadata_of (protocol_name g) x }) g.members
    else []

abbrev pub told : Group → Member → JoinReply
told g m = record {
  generation = g.generation;
  protocol = protocol_name g;
  leader = leader_id g;
  member = m.id;
  members = listed g m;
}

-- ---- a generation ends

abbrev pub is_preparing : Phase → Bool
is_preparing (Preparing t) = true
is_preparing p = false

abbrev pub is_completing : Phase → Bool
is_completing (Completing t) = true
is_completing p = false

abbrev pub is_stable : Phase → Bool
is_stable Stable = true
is_stable p = false

-- the longest rebalance timeout
abbrev pub longest : List Member → ℕ
longest ms = fold (λ t m. max t m.rebalance) 0 ms

-- so long members may join: a group that had no generation waits for further members
abbrev pub joining_time : Settings → Group → ℕ
joining_time o g = if g.generation == 0 then o.join_delay else longest g.members

-- a member that doesn't wait for its leader any more
abbrev pub unsynced : (now : ℕ) → Member → Member
unsynced now m = if is_syncing m.wait then record m { until = now + m.session; wait = No } else m

-- Members join anew: who waits for the leader is told so. Nothing changes where they do so already.
abbrev pub prepare : Settings → (now : ℕ) → Move
prepare o now n g =
    if is_preparing g.phase then stays n g
    else record {
      group = record g { phase = Preparing (now + joining_time o g); members = map (unsynced now) g.members };
      generations = n;
      refusals = refusals_of Rebalancing (filter (λ m. is_syncing m.wait) g.members);
    }

-- Some members go; whoever waits for one of them is told so.
abbrev pub drop_those : (Member → Bool) → Move
drop_those goes n g = record {
  group = record g { members = filter (λ m. not (goes m)) g.members };
  generations = n;
  refusals = refusals_of UnknownMember (filter goes g.members);
}

-- ---- a generation begins

-- a member that joined, as one of a generation that begins now: its reply is ready
abbrev pub begun_wait : Wait → Wait
begun_wait (Joins k) = Told k
begun_wait w = w

abbrev pub begun_member : (now : ℕ) → Member → Member
begun_member now m = record m { until = now + m.session; wait = begun_wait m.wait; is_told = true }

-- the leader of these members: the one that leads them already, else the first
abbrev pub next_leader : (leader : ℕ) → List Member → ℕ
next_leader l [] = l
next_leader l (m ∷ ms) = if list_any (is_numbered l) (m ∷ ms) then l else m.number

-- the first of the leader's protocols that all know
abbrev pub common_protocol : (leader : ℕ) → List Member → ℕ
common_protocol l ms = position_or_len (λ p. is_common ms p.name) (protocols_of l ms)

-- The next generation of a group, of all its members. Where no number is left for it they go.
abbrev pub begin_generation : (now : ℕ) → Move
begin_generation now n g =
    if nat_lt n MOST_GENERATION then record {
      group = record g {
        generation = n + 1;
        phase = Completing (now + longest g.members);
        leader = next_leader g.leader g.members;
        protocol = common_protocol (next_leader g.leader g.members) g.members;
        members = map (begun_member now) g.members;
      };
      generations = n + 1;
      refusals = [];
    }
    else drop_those (λ m. true) n g

-- a move of a group that has members
abbrev pub if_any_left : Move → Move
if_any_left a n g = if 0 == length g.members then stays n g else a n g

-- The next generation, of those who joined.
abbrev pub complete : (now : ℕ) → Move
complete now = and_then (drop_those (λ m. not (is_joining m.wait))) (if_any_left (begin_generation now))

-- whether the time for joining is over, or all members joined, where it isn't the first generation
abbrev pub is_complete : (now : ℕ) → Group → Phase → Bool
is_complete now g (Preparing t) = nat_le t now || (nat_lt 0 g.generation && list_all (λ m. is_joining m.wait) g.members)
is_complete now g p = false

abbrev pub settle : (now : ℕ) → Move
settle now n g = if is_complete now g g.phase then complete now n g else stays n g

-- ---- room

-- the bytes that are counted for a group
abbrev pub group_bytes : Group → ℕ
group_bytes g = length g.name + length g.kind + sum_by member_bytes g.members
