use Rattle.std.proofs.Common.{take}
use Rattle.group_coordinator.specs.Giving.{GivesLast}
use Rattle.group_coordinator.proofs.parts.last_of.Given as goal

-- those before the index were put
abbrev pub invariant-loop-entry : goal.invariant-loop-entry
invariant-loop-entry g l = GivesLast l.last (take l.entry-index l.parts)
