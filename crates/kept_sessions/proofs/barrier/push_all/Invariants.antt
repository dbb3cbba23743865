use Rattle.std.proofs.Common.{◌≡◌, ◌++◌, drop}
use Rattle.kept_sessions.specs.Barring.{all_places, places_from}
use Rattle.kept_sessions.proofs.barrier.push_all.Given as goal

-- with those of the topics that are left there are all
abbrev pub invariant-loop-index : goal.invariant-loop-index
invariant-loop-index g l = l.places.items ++ places_from l.index (drop l.index l.fn.state.topics) ≡ l.fn.places.items ++ all_places l.fn.state
