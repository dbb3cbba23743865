use Rattle.tcp_edge.proofs.TextAndNumber.{none_without_colon, none_with_plus, none_without_number}
use Rattle.tcp_edge.proofs.TopicLists.{no_topic}
use Rattle.tcp_edge.proofs.topics.read_topic.Goals as goal

pub returns-in_default-clause-refuses : goal.returns-in_default-clause-refuses
returns-in_default-clause-refuses c = no_topic c.args.argument.now (none_without_colon 32 c.args.argument.now c.in_default.ensures.cases)

pub returns-then-starts_with-clause-refuses : goal.returns-then-starts_with-clause-refuses
returns-then-starts_with-clause-refuses c = no_topic c.args.argument.now
    (none_with_plus 32 c.args.argument.now c.in-Some.name.now c.in-Some.digits.now _ c.in-Some.ensures.cases c.if-starts_with.ensures.cases.1.1)

pub returns-in-Err-clause-refuses : goal.returns-in-Err-clause-refuses
returns-in-Err-clause-refuses c = no_topic c.args.argument.now
    (none_without_number 32 c.args.argument.now c.in-Some.name.now c.in-Some.digits.now c.in-Some.ensures.cases c.in-Err.ensures.value.0)
