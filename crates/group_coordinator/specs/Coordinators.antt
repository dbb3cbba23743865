-- All groups: what each request does and replies, in the order of its refusals, what is ready for a session, and which commits
-- are admitted. Kafka's documentation, "Protocol Guide", section "Error Codes". This project's own: groups without members
-- aren't kept, and generations are numbered over all groups, so that no number comes again.
use Rattle.std.specs.Prelude.{ℕ, ℤ, pos, negsuc, ◌+◌, ◌==◌, ◌&&◌, ◌||◌, not, nat_lt, int_lt, Bool, List, [], ◌∷◌, ◌++◌, map, length, Option, Some, None, if◌then◌else◌}
use Rattle.std.specs.List.{find, list_any, filter, sum_by}
use Rattle.std.specs.Option.{option_map, option_or, is_none}
use Rattle.std.specs.Ordering.{int_eq}
use Rattle.std.specs.Str.{bytes_eq}
use Rattle.group_coordinator.specs.declared.values.GroupError.{GroupError}
use Rattle.group_coordinator.specs.declared.values.GroupError.TheVariants.{NotAvailable, NotCoordinator, IllegalGeneration, InconsistentProtocol, InvalidGroup, UnknownMember, InvalidSession, Rebalancing}
use Rattle.group_coordinator.specs.declared.values.Refusal.{Refusal}
use Rattle.group_coordinator.specs.declared.values.Settings.{Settings}
use Rattle.group_coordinator.specs.declared.values.TheConstants.{LEAST_SESSION, MOST_SESSION, MOST_BYTES, MOST_IDS}
use Rattle.group_coordinator.specs.declared.values.Wait.{Wait}
use Rattle.group_coordinator.specs.declared.values.Wait.TheVariants.{No, Told, Assigned}
use Rattle.group_coordinator.specs.Members.{Member, has_id, is_in, is_ready, is_common}
use Rattle.group_coordinator.specs.Groups.{Group, Move, new_group, stays, told, is_preparing, is_completing, group_bytes}
use Rattle.group_coordinator.specs.Joining.{waits, with_member, plainly, new_member, with_last, rejoined, rejoin, join_new, sync, heartbeat, leave, end_session}
use Rattle.group_coordinator.specs.Requests.{JoinRequest, SyncRequest, Request, Reply}
use Rattle.group_coordinator.specs.Requests.Request.{Join, Sync, Heartbeat, Leave}
use Rattle.group_coordinator.specs.Requests.Reply.{Refused, Done, Joined, Given}

-- What a coordinator has: what it was told once; its clock; how many ids it gave, and how many generations there were; the
-- groups, by age; and the refusals that are ready for sessions whose requests waited.
pub record Groups : Type 0 where
  pub settings : Settings
  pub now : ℕ
  pub ids : ℕ
  pub generations : ℕ
  pub groups : List Group
  pub refused : List Refusal

abbrev pub no_groups : Settings → Groups
no_groups o = record { settings = o; now = 0; ids = 0; generations = 0; groups = []; refused = [] }

abbrev pub is_named : List ℕ → Group → Bool
is_named name g = bytes_eq g.name name

abbrev pub group_named : List ℕ → Groups → Option Group
group_named name v = find (is_named name) v.groups

-- ---- a move, over all groups

-- a group that has members is kept
abbrev pub kept : Group → List Group
kept g = if 0 == length g.members then [] else g ∷ []

-- What becomes of some groups.
pub record AllMoved : Type 0 where
  pub groups : List Group
  pub generations : ℕ
  pub refusals : List Refusal

-- a move of each of some groups, one after the other
abbrev pub move_each : Move → ℕ → List Group → AllMoved
move_each a n [] = record { groups = []; generations = n; refusals = [] }
move_each a n (g ∷ gs) = record {
  groups = kept (a n g).group ++ (move_each a (a n g).generations gs).groups;
  generations = (move_each a (a n g).generations gs).generations;
  refusals = (a n g).refusals ++ (move_each a (a n g).generations gs).refusals;
}

abbrev pub move_all : Move → Groups → Groups
move_all a v = record v {
  groups = (move_each a v.generations v.groups).groups;
  generations = (move_each a v.generations v.groups).generations;
  refused = v.refused ++ (move_each a v.generations v.groups).refusals;
}

-- a move of the group of this name alone
abbrev pub only : List ℕ → Move → Move
only name a n g = if is_named name g then a n g else stays n g

abbrev pub move_one : List ℕ → Move → Groups → Groups
move_one name a v = move_all (only name a) v

-- the bytes that are counted for all groups
abbrev pub all_bytes : Groups → ℕ
all_bytes v = sum_by group_bytes v.groups

-- ---- what is ready for a session

-- the reply to a member that waits in this session, where it is ready
abbrev pub reply_of : (session : ℕ) → Group → Member → Wait → Option Reply
reply_of k g m (Told j) = if j == k then Some (Joined (told g m)) else None
reply_of k g m (Assigned j) = if j == k then Some (Given m.part) else None
reply_of k g m w = None

abbrev pub reply_among : (session : ℕ) → Group → List Member → Option Reply
reply_among k g [] = None
reply_among k g (m ∷ ms) = option_or (reply_of k g m m.wait) (reply_among k g ms)

abbrev pub reply_in : (session : ℕ) → List Group → Option Reply
reply_in k [] = None
reply_in k (g ∷ gs) = option_or (reply_among k g g.members) (reply_in k gs)

-- the refusal that is ready for a session
abbrev pub is_for : (session : ℕ) → Refusal → Bool
is_for k r = r.session == k

abbrev pub refusal_in : (session : ℕ) → List Refusal → Option Reply
refusal_in k rs = option_map (λ r. Refused r.error) (find (is_for k) rs)

abbrev pub ready_for : (session : ℕ) → Groups → Option Reply
ready_for k v = option_or (refusal_in k v.refused) (reply_in k v.groups)

-- a member whose reply was sent
abbrev pub sent : (session : ℕ) → Member → Member
sent k m = if is_in k m.wait && is_ready m.wait then waits No m else m

abbrev pub sent_group : (session : ℕ) → Group → Group
sent_group k g = record g { members = map (sent k) g.members }

-- the groups, without what is ready for this session
abbrev pub without_ready : (session : ℕ) → Groups → Groups
without_ready k v = record v {
  groups = map (sent_group k) v.groups;
  refused = filter (λ r. not (is_for k r)) v.refused;
}

-- A reply, or none as yet, and the groups behind it.
pub record Answered : Type 0 where
  pub reply : Option Reply
  pub groups : Groups

abbrev pub at_once : Reply → Groups → Answered
at_once r v = record { reply = Some r; groups = v }

-- what is ready for a session, which is ready no longer
abbrev pub release : (session : ℕ) → Groups → Answered
release k v = record { reply = ready_for k v; groups = without_ready k v }

-- whether something is ready, for whoever
abbrev pub is_any_ready : Groups → Bool
is_any_ready v = nat_lt 0 (length v.refused) || list_any (λ g. list_any (λ m. is_ready m.wait) g.members) v.groups

-- ---- refusals, of which the first that holds decides

abbrev pub fault_if : Bool → GroupError → Option GroupError
fault_if b e = if b then Some e else None

-- the group has a name, and this broker follows none
abbrev pub group_fault : Settings → (name : List ℕ) → Option GroupError
group_fault o name = option_or (fault_if (0 == length name) InvalidGroup) (fault_if o.follows NotCoordinator)

-- a request of a member of this generation
abbrev pub generation_fault : Group → ℤ → Option Member → Option GroupError
generation_fault g generation None = Some UnknownMember
generation_fault g generation (Some m) = fault_if (not (int_eq generation (pos g.generation) && m.is_told)) IllegalGeneration

abbrev pub member_of : List ℕ → Group → Option Member
member_of id g = find (has_id id) g.members

abbrev pub member_fault : ℤ → List ℕ → Option Group → Option GroupError
member_fault generation id None = Some UnknownMember
member_fault generation id (Some g) = generation_fault g generation (member_of id g)

-- no such member
abbrev pub unknown_fault : List ℕ → Option Group → Option GroupError
unknown_fault id None = Some UnknownMember
unknown_fault id (Some g) = fault_if (is_none (member_of id g)) UnknownMember

abbrev pub preparing_fault : Option Group → Option GroupError
preparing_fault None = None
preparing_fault (Some g) = fault_if (is_preparing g.phase) Rebalancing

abbrev pub completing_fault : Option Group → Option GroupError
completing_fault None = None
completing_fault (Some g) = fault_if (is_completing g.phase) Rebalancing

-- it fits the kind of the group, and has a protocol that the other members know; the first member gives both
abbrev pub protocol_fits : JoinRequest → Option Group → Bool
protocol_fits q None = not (0 == length q.kind) && nat_lt 0 (length q.protocols)
protocol_fits q (Some g) =
    bytes_eq g.kind q.kind && list_any (λ p. is_common (filter (λ m. not (has_id q.member m)) g.members) p.name) q.protocols

-- an id that it names is a member's
abbrev pub id_fault : List ℕ → Option Group → Option GroupError
id_fault id at = if 0 == length id then None else unknown_fault id at

abbrev pub join_fault : Groups → JoinRequest → Option GroupError
join_fault v q =
    option_or (group_fault v.settings q.group)
    (option_or (fault_if (int_lt q.session LEAST_SESSION || int_lt MOST_SESSION q.session) InvalidSession)
    (option_or (fault_if (not (protocol_fits q (group_named q.group v))) InconsistentProtocol)
    (id_fault q.member (group_named q.group v))))

abbrev pub sync_fault : Groups → SyncRequest → Option GroupError
sync_fault v q =
    option_or (group_fault v.settings q.group)
    (option_or (member_fault q.generation q.member (group_named q.group v))
    (preparing_fault (group_named q.group v)))

-- ---- requests

-- What a request came to, where there is room for all that is there with what it brings; else it is refused, and nothing changes.
abbrev pub if_room : (full : ℕ) → (before after : Groups) → (session : ℕ) → Answered
if_room full before after k =
    if nat_lt MOST_BYTES full || nat_lt MOST_IDS after.ids then at_once (Refused NotAvailable) before
    else release k after

-- the groups with one of this name
abbrev pub with_group : (name kind : List ℕ) → Groups → Groups
with_group name kind v =
    if is_none (group_named name v) then record v { groups = v.groups ++ new_group name kind ∷ [] } else v

-- the groups with what a join brings, before anything follows from it
abbrev pub entered : (session : ℕ) → (client : List ℕ) → JoinRequest → Groups → Groups
entered k client q v =
    if 0 == length q.member then move_one q.group
    (plainly (with_last (new_member v.settings v.now k v.ids client q)))
    (with_group q.group q.kind v)
    else move_one q.group (plainly (with_member q.member (rejoined v.now k q))) v

-- the groups behind a join
abbrev pub joined : (session : ℕ) → (client : List ℕ) → JoinRequest → Groups → Groups
joined k client q v =
    if 0 == length q.member then move_one q.group
    (join_new v.settings v.now k v.ids client q)
    (record (with_group q.group q.kind v) { ids = v.ids + 1 })
    else move_one q.group (rejoin v.settings v.now k q) v

abbrev pub ask_join : (session : ℕ) → (client : List ℕ) → JoinRequest → Groups → Option GroupError → Answered
ask_join k client q v (Some e) = at_once (Refused e) v
ask_join k client q v None = if_room (all_bytes (entered k client q v)) v (joined k client q v) k

abbrev pub ask_sync : (session : ℕ) → SyncRequest → Groups → Option GroupError → Answered
ask_sync k q v (Some e) = at_once (Refused e) v
ask_sync k q v None = if_room (all_bytes (move_one q.group (sync v.now k q) v)) v (move_one q.group (sync v.now k q) v) k

abbrev pub reply_to : Option GroupError → Reply
reply_to None = Done
reply_to (Some e) = Refused e

-- A member that is one of its generation was heard of, also where it is told that members join anew.
abbrev pub ask_heartbeat : (name id : List ℕ) → Groups → Option GroupError → Answered
ask_heartbeat name id v (Some e) = at_once (Refused e) v
ask_heartbeat name id v None =
    at_once (reply_to (preparing_fault (group_named name v))) (move_one name (heartbeat v.now id) v)

abbrev pub ask_leave : (name id : List ℕ) → Groups → Option GroupError → Answered
ask_leave name id v (Some e) = at_once (Refused e) v
ask_leave name id v None = at_once Done (move_one name (leave v.settings v.now id) v)

-- What a request in this session, of this client, is replied at once, if it is, and what becomes of the groups.
abbrev pub asked : (session : ℕ) → (client : List ℕ) → Request → Groups → Answered
asked k client (Join q) v = ask_join k client q v (join_fault v q)
asked k client (Sync q) v = ask_sync k q v (sync_fault v q)
asked k client (Heartbeat name generation id) v = ask_heartbeat name id v
    (option_or (group_fault v.settings name) (member_fault generation id (group_named name v)))
asked k client (Leave name id) v = ask_leave name id v
    (option_or (group_fault v.settings name) (unknown_fault id (group_named name v)))

-- ---- commits

-- whether a commit is one of no member: it names no generation
abbrev pub is_simple : ℤ → Bool
is_simple generation = int_eq generation (negsuc 0)

abbrev pub commit_fault_at : ℤ → List ℕ → Option Group → Option GroupError
commit_fault_at generation id None = fault_if (not (is_simple generation)) IllegalGeneration
commit_fault_at generation id (Some g) =
    option_or (generation_fault g generation (member_of id g)) (completing_fault (Some g))

-- Why a commit isn't admitted. What has no name, and whatever comes to a broker that follows another one, is left to the broker,
-- which refuses it.
abbrev pub commit_fault : (name : List ℕ) → (generation : ℤ) → (id : List ℕ) → Groups → Option GroupError
commit_fault name generation id v =
    if 0 == length name || v.settings.follows then None
    else commit_fault_at generation id (group_named name v)

-- A commit was done: its member was heard of.
abbrev pub committed : (name id : List ℕ) → Groups → Groups
committed name id v = move_one name (heartbeat v.now id) v

-- ---- the end of a session

-- A session ended: nothing is ready for it any more, and nobody waits in it.
abbrev pub gone : (session : ℕ) → Groups → Groups
gone k v = move_all (end_session v.now k) (record v { refused = filter (λ r. not (is_for k r)) v.refused })
