use Rattle.subcommands.specs.Input.{Takes}
use Rattle.subcommands.proofs.table.take_input.Given as goal

-- all that was read is taken, but for too few bytes for a batch
abbrev pub invariant-loop : goal.invariant-loop
invariant-loop g l = Takes l.initial.source l.source l.intake.log l.intake.count l.held.items l.counter
