use Rattle.std.proofs.Common.{rules}
use Rattle.group_coordinator.proofs.Comparing.{other_length}
use Rattle.group_coordinator.proofs.protocols.are_same.Goals as goal

pub returns-then-left-right : goal.returns-then-left-right
returns-then-left-right g c = other_length c.args.left.now c.args.right.now (λ e. search rules)
