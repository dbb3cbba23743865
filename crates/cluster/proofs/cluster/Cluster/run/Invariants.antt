use Rattle.std.proofs.Common.{◌≡◌, ◌≤◌, take, length}
use Rattle.std.specs.Vec.{vec_len, vec_capacity}
use Rattle.cluster.specs.Events.{Runs}
use Rattle.cluster.proofs.cluster.Cluster.run.Given as goal

abbrev pub invariant-loop-event : goal.invariant-loop-event
invariant-loop-event g l =
    Runs l.fn.self (take l.event-index l.events) l.results.items l.self
    × (vec_len l.results ≡ l.event-index) × (length l.events ≤ vec_capacity l.results)
