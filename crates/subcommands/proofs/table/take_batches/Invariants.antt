use Rattle.std.proofs.Common.{length}
use Rattle.subcommands.specs.Input.{TakesBatches}
use Rattle.subcommands.proofs.table.take_batches.Given as goal

abbrev pub invariant-loop : goal.invariant-loop
invariant-loop g l = TakesBatches l.initial.held.items l.held.items l.initial.intake.log l.intake.log l.initial.intake.count l.intake.count

abbrev pub decreases-loop : goal.decreases-loop
decreases-loop g l = length l.held.items
