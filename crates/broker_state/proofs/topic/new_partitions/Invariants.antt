use Rattle.std.proofs.Common.{◌≡◌}
use Rattle.std.specs.Prelude.{replicate}
use Rattle.content.specs.Content.{empty}
use Rattle.broker_state.proofs.topic.new_partitions.Given as goal

abbrev pub invariant-loop : goal.invariant-loop
invariant-loop g l = l.partitions.items ≡ replicate l.counter (record { role = l.role; content = empty })
