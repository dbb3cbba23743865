-- What time does. Kafka's documentation, "Configuration", section "Consumer Configs", session.timeout.ms ("If no heartbeats are
-- received by the broker before the expiration of this session timeout, then the broker will remove this client from the group
-- and initiate a rebalance") and max.poll.interval.ms.
use Rattle.std.specs.Prelude.{ℕ, ◌&&◌, ◌||◌, not, nat_le, min, max, Bool, false, List, [], ◌∷◌, ◌++◌, map, Option, if◌then◌else◌}
use Rattle.std.specs.List.{list_any, filter, flat_map, reduce}
use Rattle.group_coordinator.specs.declared.values.Phase.{Phase}
use Rattle.group_coordinator.specs.declared.values.Phase.TheVariants.{Preparing, Completing, Stable}
use Rattle.group_coordinator.specs.declared.values.Settings.{Settings}
use Rattle.group_coordinator.specs.declared.values.TheConstants.{MOST_TIME}
use Rattle.group_coordinator.specs.Members.{Member, is_joining, is_syncing}
use Rattle.group_coordinator.specs.Groups.{Group, Move, and_then, drop_those, prepare, settle}
use Rattle.group_coordinator.specs.Coordinators.{Groups, move_all}

-- The clock shows this; it never goes back.
abbrev pub clock : (time : ℕ) → Groups → Groups
clock t v = record v { now = max v.now (min t MOST_TIME) }

-- whether a phase in which the leader is waited for is over
abbrev pub is_overdue : (now : ℕ) → Phase → Bool
is_overdue now (Completing t) = nat_le t now
is_overdue now p = false

-- whether a member waits for the others, or its leader
abbrev pub is_waiting : Member → Bool
is_waiting m = is_joining m.wait || is_syncing m.wait

-- whether a member is thought gone: it doesn't wait, and wasn't heard of in time, or asked for no part in time
abbrev pub is_silent : (now : ℕ) → Group → Member → Bool
is_silent now g m = not (is_waiting m) && (nat_le m.until now || is_overdue now g.phase)

-- Who is silent goes, and then the others join anew.
abbrev pub expire_group : Settings → (now : ℕ) → Move
expire_group o now n g =
    if list_any (is_silent now g) g.members
    then and_then (drop_those (is_silent now g)) (and_then (prepare o now) (settle now)) n g
    else settle now n g

abbrev pub expire : Groups → Groups
expire v = move_all (expire_group v.settings v.now) v

-- ---- when something may expire

abbrev pub phase_times : Phase → List ℕ
phase_times (Preparing t) = t ∷ []
phase_times (Completing t) = t ∷ []
phase_times Stable = []

abbrev pub group_times : Group → List ℕ
group_times g = phase_times g.phase ++ map (λ m. m.until) (filter (λ m. not (is_waiting m)) g.members)

-- the time before which nothing expires; none where nothing ever does
abbrev pub next_time : Groups → Option ℕ
next_time v = reduce min (flat_map group_times v.groups)
