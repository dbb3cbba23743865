-- What the requests of members do to their group, where nothing refuses them. Kafka's documentation, "Protocol Guide",
-- JoinGroup, SyncGroup (the leader gives each member its part), Heartbeat and LeaveGroup.
use Rattle.std.specs.Prelude.{ℕ, ◌+◌, ◌&&◌, ◌||◌, not, Bool, true, false, List, [], ◌∷◌, ◌++◌, map, if◌then◌else◌}
use Rattle.std.specs.List.{list_any, filter, fold}
use Rattle.std.specs.Str.{bytes_eq}
use Rattle.group_coordinator.specs.declared.values.GroupError.TheVariants.{Rebalancing}
use Rattle.group_coordinator.specs.declared.values.Phase.TheVariants.{Stable}
use Rattle.group_coordinator.specs.declared.values.Settings.{Settings}
use Rattle.group_coordinator.specs.declared.values.Wait.{Wait}
use Rattle.group_coordinator.specs.declared.values.Wait.TheVariants.{No, Joins, Syncs, Told, Assigned}
use Rattle.group_coordinator.specs.Members.{Protocol, Member, has_id, is_syncing, is_ready, is_in, refusals_of, beat, member_id}
use Rattle.group_coordinator.specs.Groups.{Group, Move, stays, and_then, is_leader, is_completing, is_stable, prepare, drop_those, settle}
use Rattle.group_coordinator.specs.Requests.{JoinRequest, SyncRequest, Part, session_of, rebalance_of}

-- one member changes
abbrev pub with_member : List ℕ → (Member → Member) → Group → Group
with_member id f g = record g { members = map (λ m. if has_id id m then f m else m) g.members }

-- a move that refuses nobody, and begins no generation
abbrev pub plainly : (Group → Group) → Move
plainly f n g = record { group = f g; generations = n; refusals = [] }

-- A member was heard of by a request that may wait: who waits for this member already is refused.
abbrev pub called : (now : ℕ) → Member → Member
called now m = record m { until = now + m.session; wait = No }

abbrev pub call : (now : ℕ) → List ℕ → Move
call now id n g = record {
  group = with_member id (called now) g;
  generations = n;
  refusals = refusals_of Rebalancing (filter (has_id id) g.members);
}

abbrev pub waits : Wait → Member → Member
waits w m = record m { wait = w }

-- ---- joining

abbrev pub same_protocol : Protocol → Protocol → Bool
same_protocol p r = bytes_eq p.name r.name && bytes_eq p.metadata r.metadata

abbrev pub same_protocols : List Protocol → List Protocol → Bool
same_protocols [] [] = true
same_protocols (p ∷ ps) (r ∷ rs) = same_protocol p r && same_protocols ps rs
same_protocols [] (r ∷ rs) = false
same_protocols (p ∷ ps) [] = false

-- whether a member asks for what it has: the same protocols, in a generation that stands. A leader that joins a stable group
-- anew wants the parts to be given anew.
abbrev pub repeats : JoinRequest → Group → Member → Bool
repeats q g m =
    has_id q.member m && same_protocols m.protocols q.protocols
    && (is_completing g.phase || is_stable g.phase && not (is_leader g m))

abbrev pub is_repeat : JoinRequest → Group → Bool
is_repeat q g = list_any (repeats q g) g.members

-- a member that joins anew, in this session
abbrev pub rejoined : (now session : ℕ) → JoinRequest → Member → Member
rejoined now k q m = record m {
  session = session_of q;
  rebalance = rebalance_of q;
  protocols = q.protocols;
  wait = Joins k;
  until = now + session_of q;
}

abbrev pub join_anew : Settings → (now session : ℕ) → JoinRequest → Move
join_anew o now k q = and_then (plainly (with_member q.member (rejoined now k q))) (and_then (prepare o now) (settle now))

-- A member joins: it is told at once of the generation that it is one of, or all join anew.
abbrev pub rejoin : Settings → (now session : ℕ) → JoinRequest → Move
rejoin o now k q n g =
    if is_repeat q g then and_then (call now q.member) (plainly (with_member q.member (waits (Told k)))) n g
    else and_then (call now q.member) (join_anew o now k q) n g

-- a new member
abbrev pub new_member : Settings → (now session number : ℕ) → (client : List ℕ) → JoinRequest → Member
new_member o now k number client q = record {
  number = number;
  id = member_id client o.start number;
  session = session_of q;
  rebalance = rebalance_of q;
  protocols = q.protocols;
  wait = Joins k;
  until = now + session_of q;
  is_told = false;
  part = [];
}

abbrev pub with_last : Member → Group → Group
with_last m g = record g { members = g.members ++ m ∷ [] }

abbrev pub join_new : Settings → (now session number : ℕ) → (client : List ℕ) → JoinRequest → Move
join_new o now k number client q =
    and_then (plainly (with_last (new_member o now k number client q))) (and_then (prepare o now) (settle now))

-- ---- syncing

-- what the last entry for this id gives; nothing where there is none
abbrev pub part_of : List Part → List ℕ → List ℕ
part_of parts id = fold (λ found p. if bytes_eq p.id id then p.part else found) [] parts

-- a member that has its part: where it waits for it, its reply is ready
abbrev pub assigned_wait : Wait → Wait
assigned_wait (Syncs k) = Assigned k
assigned_wait w = w

abbrev pub assigned : (now : ℕ) → List Part → Member → Member
assigned now parts m = record m {
  part = part_of parts m.id;
  wait = assigned_wait m.wait;
  until = if is_syncing m.wait then now + m.session else m.until;
}

abbrev pub is_led_by : List ℕ → Group → Bool
is_led_by id g = list_any (λ m. has_id id m && is_leader g m) g.members

-- The parts are given, where it is the leader who gives them.
abbrev pub give_parts : (now : ℕ) → SyncRequest → Group → Group
give_parts now q g =
    if is_led_by q.member g then record g { phase = Stable; members = map (assigned now q.parts) g.members }
    else g

-- A member asks for its part: it gets what it has, or waits for the leader.
abbrev pub sync : (now session : ℕ) → SyncRequest → Move
sync now k q n g =
    if is_stable g.phase then and_then (call now q.member) (plainly (with_member q.member (waits (Assigned k)))) n g
    else and_then (call now q.member)
    (and_then (plainly (with_member q.member (waits (Syncs k)))) (plainly (give_parts now q))) n g

-- ---- heartbeats and leaving

abbrev pub heartbeat : (now : ℕ) → List ℕ → Move
heartbeat now id = plainly (with_member id (beat now))

abbrev pub leave : Settings → (now : ℕ) → List ℕ → Move
leave o now id = and_then (drop_those (has_id id)) (and_then (prepare o now) (settle now))

-- ---- the end of a session

-- whether a member goes with its session: it was never told of a generation
abbrev pub goes_with : (session : ℕ) → Member → Bool
goes_with k m = is_in k m.wait && not (is_ready m.wait) && not m.is_told

-- whoever waits in that session waits no more; who waited for others was heard of now
abbrev pub unwaited : (now session : ℕ) → Member → Member
unwaited now k m =
    if is_in k m.wait then record m { wait = No; until = if is_ready m.wait then m.until else now + m.session }
    else m

abbrev pub without_session : (now session : ℕ) → Group → Group
without_session now k g = record g { members = map (unwaited now k) (filter (λ m. not (goes_with k m)) g.members) }

-- A session ended: what is ready for it is dropped, and nobody waits in it any more.
abbrev pub end_session : (now session : ℕ) → Move
end_session now k n g =
    if list_any (λ m. is_in k m.wait) g.members then and_then (plainly (without_session now k)) (settle now) n g
    else stays n g
