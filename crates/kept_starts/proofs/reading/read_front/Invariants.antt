use Rattle.kept_starts.specs.Starts.{IsFrontOf}
use Rattle.kept_starts.proofs.reading.read_front.Given as goal

abbrev pub invariant-loop : goal.invariant-loop
invariant-loop g l = IsFrontOf (g.D.Disk.seen l.fn.disk) l.bytes.items
