use Rattle.std.proofs.Common.{rules}
use Rattle.broker_node.proofs.handling.answer_to.Goals as goal

pub returns-in-Produce : goal.returns-in-Produce
returns-in-Produce c = search rules
