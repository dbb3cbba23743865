use Rattle.broker_node.proofs.PlannedReplies.{one_reply, may_be_replied}
use Rattle.broker_laws.proofs.laws.answers_function.Goals as goal

pub returns-clause-one_reply : goal.returns-clause-one_reply
returns-clause-one_reply c = one_reply

pub returns-clause-may_be_replied : goal.returns-clause-may_be_replied
returns-clause-may_be_replied c = may_be_replied
