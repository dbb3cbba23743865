-- Worked rows: what is replied to one thing after the other, from no groups on.
use Rattle.std.proofs.Common.{◌≡◌, ℕ, List, [], ◌∷◌, true, false, refl}
use Rattle.std.specs.Prelude.{ℤ, pos, negsuc, Option, Some, None}
use Rattle.group_coordinator.specs.declared.values.GroupError.{GroupError}
use Rattle.group_coordinator.specs.declared.values.GroupError.TheVariants.{NotCoordinator, IllegalGeneration, InconsistentProtocol, InvalidGroup, UnknownMember, InvalidSession, Rebalancing}
use Rattle.group_coordinator.specs.declared.values.Settings.{Settings}
use Rattle.group_coordinator.specs.Members.{Protocol, member_id}
use Rattle.group_coordinator.specs.Groups.{Listed}
use Rattle.group_coordinator.specs.Coordinators.{Groups, no_groups, commit_fault}
use Rattle.group_coordinator.specs.Requests.{Part, Request, Reply}
use Rattle.group_coordinator.specs.Requests.Request.{Join, Sync, Heartbeat, Leave}
use Rattle.group_coordinator.specs.Requests.Reply.{Refused, Done, Joined, Given}
use Rattle.group_coordinator.specs.Runs.{Act, after, replied}
use Rattle.group_coordinator.specs.Runs.Act.{Ask, Release, End, Clock, Expire}
use Rattle.group_coordinator.specs.Times.{next_time}

-- each act with its reply
data Row : Type 0 where
  on : Act → Option Reply → Row
  checks : (group : List ℕ) → ℤ → List ℕ → Option GroupError → Row
  due : Option ℕ → Row

abbrev Says : Row → Groups → Type 0
Says (on a r) v = replied a v ≡ r
Says (checks name n id e) v = commit_fault name n id v ≡ e
Says (due t) v = next_time v ≡ t

abbrev left : Row → Groups → Groups
left (on a r) v = after a v
left _ v = v

abbrev Goes : Groups → List Row → Type 0
Goes v [] = v ≡ v
Goes v (r ∷ rs) = Says r v × Goes (left r v) rs

abbrev options : (delay : ℕ) → Settings
options d = record { start = 0xab; join_delay = d; follows = false }

-- ids of the client "c"
abbrev id : ℕ → List ℕ
id n = member_id (99 ∷ []) 0xab n

abbrev join : List ℕ → List ℕ → List Protocol → Request
join name member ps = Join (record { group = name; session = pos 10000; rebalance = pos 5000; member = member; kind = 107 ∷ []; protocols = ps })

abbrev is : ℕ → ℕ → Protocol
is n m = record { name = n ∷ []; metadata = m ∷ [] }

abbrev sync : List ℕ → ℕ → List ℕ → List Part → Request
sync name n member ps = Sync (record { group = name; generation = pos n; member = member; parts = ps })

abbrev gets : List ℕ → ℕ → Part
gets id p = record { id = id; part = p ∷ [] }

abbrev entry : List ℕ → ℕ → Listed
entry id m = record { id = id; metadata = m ∷ [] }

abbrev is_told : ℕ → ℕ → List ℕ → List ℕ → List Listed → Option Reply
is_told n p leader member list = Some (Joined (record { generation = n; protocol = p ∷ []; leader = leader; member = member; members = list }))

abbrev ask : ℕ → Request → Act
ask k q = Ask k (99 ∷ []) q

abbrev refused : GroupError → Option Reply
refused e = Some (Refused e)

two_members : Goes (no_groups (options 0)) (
    (due None) ∷
    (checks (103 ∷ []) (negsuc 0) [] None) ∷
    (checks (103 ∷ []) (pos 1) [] (Some IllegalGeneration)) ∷
    (on (ask 1 (join (103 ∷ []) [] (is 1 11 ∷ is 2 12 ∷ []))) (is_told 1 1 (id 0) (id 0) (entry (id 0) 11 ∷ []))) ∷
    (checks (103 ∷ []) (pos 1) (id 0) (Some Rebalancing)) ∷
    (on (ask 1 (sync (103 ∷ []) 1 (id 0) (gets (id 0) 50 ∷ []))) (Some (Given (50 ∷ [])))) ∷
    (checks (103 ∷ []) (pos 1) (id 0) None) ∷
    (checks (103 ∷ []) (negsuc 0) [] (Some UnknownMember)) ∷
    (checks (103 ∷ []) (pos 2) (id 0) (Some IllegalGeneration)) ∷
    (on (ask 1 (Heartbeat (103 ∷ []) (pos 1) (id 0))) (Some Done)) ∷
    (due (Some 10000)) ∷
    (on (ask 2 (join (103 ∷ []) [] (is 2 22 ∷ []))) None) ∷
    (on (ask 1 (Heartbeat (103 ∷ []) (pos 1) (id 0))) (refused Rebalancing)) ∷
    (checks (103 ∷ []) (pos 1) (id 0) None) ∷
    (checks (103 ∷ []) (pos 1) (id 1) (Some IllegalGeneration)) ∷
    (on (ask 1 (sync (103 ∷ []) 1 (id 0) ([]))) (refused Rebalancing)) ∷
    (due (Some 5000)) ∷
    (on (ask 1 (join (103 ∷ []) (id 0) (is 1 11 ∷ is 2 12 ∷ []))) (is_told 2 2 (id 0) (id 0) (entry (id 0) 12 ∷ entry (id 1) 22 ∷ []))) ∷
    (on (Release 2) (is_told 2 2 (id 0) (id 1) ([]))) ∷
    (on (Release 2) None) ∷
    (on (ask 2 (sync (103 ∷ []) 2 (id 1) ([]))) None) ∷
    (on (ask 1 (sync (103 ∷ []) 2 (id 0) (gets (id 1) 60 ∷ gets (id 0) 51 ∷ gets (id 1) 61 ∷ []))) (Some (Given (51 ∷ [])))) ∷
    (on (Release 2) (Some (Given (61 ∷ [])))) ∷
    (on (ask 2 (sync (103 ∷ []) 2 (id 1) ([]))) (Some (Given (61 ∷ [])))) ∷
    (on (ask 2 (join (103 ∷ []) (id 1) (is 2 22 ∷ []))) (is_told 2 2 (id 0) (id 1) ([]))) ∷
    (on (ask 2 (Heartbeat (103 ∷ []) (pos 2) (id 1))) (Some Done)) ∷
    (on (ask 2 (Leave (103 ∷ []) (id 1))) (Some Done)) ∷
    (on (ask 1 (Heartbeat (103 ∷ []) (pos 2) (id 0))) (refused Rebalancing)) ∷
    (on (ask 2 (Heartbeat (103 ∷ []) (pos 2) (id 1))) (refused UnknownMember)) ∷
    (checks (103 ∷ []) (pos 2) (id 1) (Some UnknownMember)) ∷
    (on (ask 1 (join (103 ∷ []) (id 0) (is 1 11 ∷ is 2 12 ∷ []))) (is_told 3 1 (id 0) (id 0) (entry (id 0) 11 ∷ []))) ∷
    (on (ask 1 (Leave (103 ∷ []) (id 0))) (Some Done)) ∷
    (checks (103 ∷ []) (pos 3) (id 0) (Some IllegalGeneration)) ∷
    (checks (103 ∷ []) (negsuc 0) (id 0) None) ∷
    [])
two_members = (refl, (refl, (refl, (refl, (refl, (refl, (refl, (refl, (refl, (refl, (refl, (refl, (refl, (refl, (refl, (refl, (refl, (refl, (refl, (refl, (refl, (refl, (refl, (refl, (refl, (refl, (refl, (refl, (refl, (refl, (refl, (refl, (refl, (refl, refl))))))))))))))))))))))))))))))))))

silence : Goes (no_groups (options 0)) (
    (on (ask 1 (join (103 ∷ []) [] (is 1 11 ∷ []))) (is_told 1 1 (id 0) (id 0) (entry (id 0) 11 ∷ []))) ∷
    (on (ask 2 (join (103 ∷ []) [] (is 1 21 ∷ []))) None) ∷
    (on (Clock 4000) None) ∷
    (on Expire None) ∷
    (on (Release 2) None) ∷
    (on (ask 1 (join (103 ∷ []) (id 0) (is 1 11 ∷ []))) (is_told 2 1 (id 0) (id 0) (entry (id 0) 11 ∷ entry (id 1) 21 ∷ []))) ∷
    (on (Release 2) (is_told 2 1 (id 0) (id 1) ([]))) ∷
    (on (ask 2 (sync (103 ∷ []) 2 (id 1) ([]))) None) ∷
    (on (Clock 8999) None) ∷
    (on Expire None) ∷
    (on (Release 2) None) ∷
    (due (Some 9000)) ∷
    (on (Clock 9000) None) ∷
    (on Expire None) ∷
    (on (Release 2) (refused Rebalancing)) ∷
    (on (ask 1 (Heartbeat (103 ∷ []) (pos 2) (id 0))) (refused UnknownMember)) ∷
    (on (ask 2 (join (103 ∷ []) (id 1) (is 1 21 ∷ []))) (is_told 3 1 (id 1) (id 1) (entry (id 1) 21 ∷ []))) ∷
    (on (ask 3 (join (103 ∷ []) [] (is 1 31 ∷ []))) None) ∷
    (on (ask 4 (join (103 ∷ []) [] (is 1 41 ∷ []))) None) ∷
    (on (End 3) None) ∷
    (on (ask 5 (join (103 ∷ []) (id 2) (is 1 31 ∷ []))) (refused UnknownMember)) ∷
    (on (ask 2 (join (103 ∷ []) (id 1) (is 1 21 ∷ []))) (is_told 4 1 (id 1) (id 1) (entry (id 1) 21 ∷ entry (id 3) 41 ∷ []))) ∷
    (on (End 4) None) ∷
    (on (Release 4) None) ∷
    (on (ask 4 (sync (103 ∷ []) 4 (id 3) ([]))) None) ∷
    (on (ask 6 (sync (103 ∷ []) 4 (id 3) ([]))) None) ∷
    (on (Release 4) (refused Rebalancing)) ∷
    (on (End 6) None) ∷
    (on (ask 2 (sync (103 ∷ []) 4 (id 1) (gets (id 3) 70 ∷ []))) (Some (Given []))) ∷
    (on (ask 4 (sync (103 ∷ []) 4 (id 3) ([]))) (Some (Given (70 ∷ [])))) ∷
    (on (Clock 19000) None) ∷
    (on Expire None) ∷
    (on (ask 2 (Heartbeat (103 ∷ []) (pos 4) (id 1))) (refused UnknownMember)) ∷
    (due None) ∷
    [])
silence = (refl, (refl, (refl, (refl, (refl, (refl, (refl, (refl, (refl, (refl, (refl, (refl, (refl, (refl, (refl, (refl, (refl, (refl, (refl, (refl, (refl, (refl, (refl, (refl, (refl, (refl, (refl, (refl, (refl, (refl, (refl, (refl, (refl, (refl, refl))))))))))))))))))))))))))))))))))

delay : Goes (no_groups (options 3000)) (
    (on (ask 1 (join (103 ∷ []) [] (is 1 11 ∷ is 2 12 ∷ []))) None) ∷
    (on (ask 2 (join (103 ∷ []) [] (is 3 21 ∷ []))) (refused InconsistentProtocol)) ∷
    (on (ask 2 (join (103 ∷ []) [] (is 2 21 ∷ is 1 22 ∷ []))) None) ∷
    (due (Some 3000)) ∷
    (on (Clock 3000) None) ∷
    (on Expire None) ∷
    (on (Release 1) (is_told 1 1 (id 0) (id 0) (entry (id 0) 11 ∷ entry (id 1) 22 ∷ []))) ∷
    (on (Release 2) (is_told 1 1 (id 0) (id 1) ([]))) ∷
    (on (ask 2 (join (103 ∷ []) (id 1) (is 2 21 ∷ []))) None) ∷
    (on (Clock 7999) None) ∷
    (on Expire None) ∷
    (on (Release 2) None) ∷
    (on (Clock 8000) None) ∷
    (on Expire None) ∷
    (on (Release 2) (is_told 2 2 (id 1) (id 1) (entry (id 1) 21 ∷ []))) ∷
    (on (ask 1 (Heartbeat (103 ∷ []) (pos 1) (id 0))) (refused UnknownMember)) ∷
    [])
delay = (refl, (refl, (refl, (refl, (refl, (refl, (refl, (refl, (refl, (refl, (refl, (refl, (refl, (refl, (refl, (refl, refl))))))))))))))))

faults : Goes (no_groups (options 0)) (
    (on (ask 1 (Join (record { group = []; session = pos 5; rebalance = pos 0; member = (1 ∷ []); kind = []; protocols = ([]) }))) (refused InvalidGroup)) ∷
    (on (ask 1 (Join (record { group = (103 ∷ []); session = pos 999; rebalance = pos 0; member = (1 ∷ []); kind = []; protocols = ([]) }))) (refused InvalidSession)) ∷
    (on (ask 1 (Join (record { group = (103 ∷ []); session = pos 1800001; rebalance = pos 0; member = (1 ∷ []); kind = []; protocols = ([]) }))) (refused InvalidSession)) ∷
    (on (ask 1 (Join (record { group = (103 ∷ []); session = negsuc 0; rebalance = pos 0; member = (1 ∷ []); kind = []; protocols = ([]) }))) (refused InvalidSession)) ∷
    (on (ask 1 (Join (record { group = (103 ∷ []); session = pos 1000; rebalance = pos 0; member = (1 ∷ []); kind = []; protocols = (is 1 1 ∷ []) }))) (refused InconsistentProtocol)) ∷
    (on (ask 1 (Join (record { group = (103 ∷ []); session = pos 1000; rebalance = pos 0; member = (1 ∷ []); kind = (1 ∷ []); protocols = ([]) }))) (refused InconsistentProtocol)) ∷
    (on (ask 1 (Join (record { group = (103 ∷ []); session = pos 1000; rebalance = pos 0; member = (1 ∷ []); kind = (1 ∷ []); protocols = (is 1 1 ∷ []) }))) (refused UnknownMember)) ∷
    (on (ask 1 (Join (record { group = (103 ∷ []); session = pos 1000; rebalance = pos 0; member = []; kind = (1 ∷ []); protocols = (is 1 1 ∷ []) }))) (is_told 1 1 (id 0) (id 0) (entry (id 0) 1 ∷ []))) ∷
    (on (ask 2 (Join (record { group = (103 ∷ []); session = pos 1000; rebalance = pos 0; member = []; kind = (2 ∷ []); protocols = (is 1 1 ∷ []) }))) (refused InconsistentProtocol)) ∷
    (on (ask 2 (Join (record { group = (104 ∷ []); session = pos 1000; rebalance = pos 0; member = []; kind = (1 ∷ []); protocols = (is 1 1 ∷ []) }))) (is_told 2 1 (id 1) (id 1) (entry (id 1) 1 ∷ []))) ∷
    (on (ask 1 (Heartbeat [] (pos 1) [])) (refused InvalidGroup)) ∷
    (on (ask 1 (Heartbeat (103 ∷ []) (pos 1) (id 1))) (refused UnknownMember)) ∷
    (on (ask 1 (Heartbeat (103 ∷ []) (pos 2) (id 0))) (refused IllegalGeneration)) ∷
    (on (ask 1 (sync (103 ∷ []) 2 (id 0) ([]))) (refused IllegalGeneration)) ∷
    (on (ask 1 (sync (103 ∷ []) 2 (id 1) ([]))) (refused UnknownMember)) ∷
    (on (ask 1 (Leave (103 ∷ []) (id 1))) (refused UnknownMember)) ∷
    (on (ask 1 (Leave [] [])) (refused InvalidGroup)) ∷
    (checks (103 ∷ []) (pos 1) (id 0) (Some Rebalancing)) ∷
    (checks [] (pos 1) (id 0) None) ∷
    [])
faults = (refl, (refl, (refl, (refl, (refl, (refl, (refl, (refl, (refl, (refl, (refl, (refl, (refl, (refl, (refl, (refl, (refl, (refl, (refl, refl)))))))))))))))))))

follower : Goes (no_groups (record { start = 0; join_delay = 0; follows = true })) (
    (on (ask 1 (Join (record { group = []; session = pos 5; rebalance = pos 0; member = []; kind = []; protocols = ([]) }))) (refused InvalidGroup)) ∷
    (on (ask 1 (Join (record { group = (103 ∷ []); session = pos 5; rebalance = pos 0; member = []; kind = []; protocols = ([]) }))) (refused NotCoordinator)) ∷
    (on (ask 1 (Heartbeat (103 ∷ []) (pos 1) (id 0))) (refused NotCoordinator)) ∷
    (on (ask 1 (Leave (103 ∷ []) (id 0))) (refused NotCoordinator)) ∷
    (on (ask 1 (sync (103 ∷ []) 1 (id 0) ([]))) (refused NotCoordinator)) ∷
    (checks (103 ∷ []) (pos 1) (id 0) None) ∷
    [])
follower = (refl, (refl, (refl, (refl, (refl, (refl, refl))))))
