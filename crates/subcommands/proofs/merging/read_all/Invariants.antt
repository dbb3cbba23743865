use Rattle.subcommands.specs.Input.{Holds}
use Rattle.subcommands.proofs.merging.read_all.Given as goal

-- what was read is held
abbrev pub invariant-loop : goal.invariant-loop
invariant-loop g l = Holds l.initial.source l.source l.input.items l.counter
