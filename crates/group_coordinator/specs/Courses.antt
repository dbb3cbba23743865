-- What happens to a small group, one thing after the other; of a list the latest stands first.
use Rattle.std.specs.Prelude.{ℕ, pos, false, List, [], ◌∷◌}
use Rattle.group_coordinator.specs.declared.values.Settings.{Settings}
use Rattle.group_coordinator.specs.Members.{Protocol, member_id}
use Rattle.group_coordinator.specs.Requests.{JoinRequest, Part}
use Rattle.group_coordinator.specs.Requests.Request.{Join, Sync, Heartbeat, Leave}
use Rattle.group_coordinator.specs.Runs.{Act}
use Rattle.group_coordinator.specs.Runs.Act.{Ask, Release, Clock, Expire}

-- a broker that waits 3 s for the members of a first generation
abbrev pub course_settings : Settings
course_settings = record { start = 7; join_delay = 3000; follows = false }

-- the id of the member with this number
abbrev pub course_id : ℕ → List ℕ
course_id n = member_id (99 ∷ []) 7 n

-- A consumer joins: its session timeout is 10 s, its rebalance timeout 5 s.
abbrev pub course_join : (session : ℕ) → (member : List ℕ) → (metadata : ℕ) → Act
course_join k id m = Ask k (99 ∷ []) (Join (record {
  group = 103 ∷ [];
  session = pos 10000;
  rebalance = pos 5000;
  member = id;
  kind = 107 ∷ [];
  protocols = record { name = 114 ∷ []; metadata = m ∷ [] } ∷ record { name = 115 ∷ []; metadata = [] } ∷ [];
}))

abbrev pub course_sync : (session number : ℕ) → List Part → Act
course_sync k n ps = Ask k (99 ∷ []) (Sync (record { group = 103 ∷ []; generation = pos 1; member = course_id n; parts = ps }))

abbrev pub course_heartbeat : (number : ℕ) → Act
course_heartbeat n = Ask 9 (99 ∷ []) (Heartbeat (103 ∷ []) (pos 1) (course_id n))

-- Two join, and the time for it passes.
abbrev pub two_join : List Act
two_join = Expire ∷ Clock 3000 ∷ course_join 1 [] 2 ∷ course_join 0 [] 1 ∷ []

-- They are told, and the second one asks for its part.
abbrev pub one_waits : List Act
one_waits = course_sync 1 1 [] ∷ Release 1 ∷ Release 0 ∷ two_join

-- The leader gives the parts: for the second member twice.
abbrev pub leader_gives : Act
leader_gives = course_sync 0 0 (record { id = course_id 1; part = 8 ∷ [] } ∷ record { id = course_id 0; part = 9 ∷ [] } ∷ record { id = course_id 1; part = 7 ∷ [] } ∷ [])

abbrev pub both_have_parts : List Act
both_have_parts = Release 1 ∷ leader_gives ∷ one_waits

-- The first is heard of, the second isn't.
abbrev pub one_is_silent : List Act
one_is_silent = Expire ∷ Clock 13000 ∷ course_heartbeat 0 ∷ Clock 12000 ∷ both_have_parts

-- A third member joins, the first joins anew, the second doesn't.
abbrev pub one_stays_away : List Act
one_stays_away = Expire ∷ Clock 8000 ∷ course_join 0 (course_id 0) 1 ∷ course_join 2 [] 3 ∷ both_have_parts

abbrev pub second_leaves : Act
second_leaves = Ask 9 (99 ∷ []) (Leave (103 ∷ []) (course_id 1))

abbrev pub one_leaves : List Act
one_leaves = second_leaves ∷ both_have_parts
