-- The requests of members, and the replies to them, as values. Kafka's documentation, "Protocol Guide", JoinGroup, SyncGroup,
-- Heartbeat and LeaveGroup.
use Rattle.std.specs.Prelude.{ℕ, ℤ, nat_abs, int_lt, List, if◌then◌else◌}
use Rattle.group_coordinator.specs.declared.values.GroupError.{GroupError}
use Rattle.group_coordinator.specs.declared.values.TheConstants.{LEAST_REBALANCE}
use Rattle.group_coordinator.specs.Members.{Protocol}
use Rattle.group_coordinator.specs.Groups.{JoinReply}

-- A request to be a member of a group: an empty id asks for a new one.
pub record JoinRequest : Type 0 where
  pub group : List ℕ
  pub session : ℤ
  pub rebalance : ℤ
  pub member : List ℕ
  pub kind : List ℕ
  pub protocols : List Protocol

-- What the leader gives a member.
pub record Part : Type 0 where
  pub id : List ℕ
  pub part : List ℕ

-- A request for one's part; the leader's has the parts of all.
pub record SyncRequest : Type 0 where
  pub group : List ℕ
  pub generation : ℤ
  pub member : List ℕ
  pub parts : List Part

-- One of the four requests.
pub data Request : Type 0 where
  Join : JoinRequest → Request
  Sync : SyncRequest → Request
  Heartbeat : (group : List ℕ) → (generation : ℤ) → (member : List ℕ) → Request
  Leave : (group member : List ℕ) → Request

-- the group that it names
abbrev pub group_of : Request → List ℕ
group_of (Join q) = q.group
group_of (Sync q) = q.group
group_of (Heartbeat group generation member) = group
group_of (Leave group member) = group

-- A reply: a refusal; done, and no more is said; the generation that the member is one of; its part.
pub data Reply : Type 0 where
  Refused : GroupError → Reply
  Done : Reply
  Joined : JoinReply → Reply
  Given : (part : List ℕ) → Reply

-- the timeouts that a member gets: a rebalance timeout that is too short counts as the shortest
abbrev pub session_of : JoinRequest → ℕ
session_of q = nat_abs q.session

abbrev pub rebalance_of : JoinRequest → ℕ
rebalance_of q = nat_abs (if int_lt q.rebalance LEAST_REBALANCE then LEAST_REBALANCE else q.rebalance)
