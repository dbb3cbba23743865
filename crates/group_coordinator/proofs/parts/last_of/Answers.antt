use Rattle.group_coordinator.proofs.Giving.{gives_next}
use Rattle.group_coordinator.proofs.parts.last_of.Goals as goal

pub loop-entry-preserved : goal.loop-entry-preserved
loop-entry-preserved g c =
    gives_next c.loop-entry.last c.put_last.new.last c.args.parts.now c.loop-entry.entry-index c.entry-item.result c.loop-entry-test.true c.entry-item.is c.in_ok-put_last.ensures c.loop-entry.invariant
