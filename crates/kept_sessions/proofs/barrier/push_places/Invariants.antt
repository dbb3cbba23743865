use Rattle.std.proofs.Common.{◌≡◌, ◌++◌}
use Rattle.kept_sessions.specs.Barring.{topic_places}
use Rattle.kept_sessions.proofs.barrier.push_places.Given as goal

-- those before this one stand behind the others
abbrev pub invariant-loop-partition : goal.invariant-loop-partition
invariant-loop-partition g l = l.places.items ≡ l.fn.places.items ++ topic_places l.fn.topic l.partition
