use Rattle.std.proofs.Common.{length}
use Rattle.group_coordinator.specs.Finding.{protocol_names}
use Rattle.group_coordinator.proofs.Finding.{Reaches}
use Rattle.group_coordinator.proofs.name_index.NameIndex.knows.Given as goal

-- below the place all is left that is looked for
abbrev pub invariant-loop-place : goal.invariant-loop-place
invariant-loop-place g l = Reaches (length l.self.last) (protocol_names l.protocols) l.name l.place

abbrev pub decreases-loop-place : goal.decreases-loop-place
decreases-loop-place g l = l.place
