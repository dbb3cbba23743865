use Rattle.std.proofs.Common.{rules, map}
use Rattle.tcp_edge.specs.Asked.{IsConfigFault}
use Rattle.tcp_edge.proofs.TopicLists.{bad_word, err_is, one_topic_more}
use Rattle.tcp_edge.proofs.topics.topics_of.Goals as goal

pub loop-argument-preserved : goal.loop-argument-preserved
loop-argument-preserved c =
    one_topic_more c.args.arguments.now c.loop-argument.argument-index _ _ _ (search rules) c.loop-argument.invariant c.in_ok-add_topic.ensures.adds

pub returns-in_err-add_topic-clause-fault : goal.returns-in_err-add_topic-clause-fault
returns-in_err-add_topic-clause-fault c =
    let fault = c.in_err-add_topic.field-0.0 in
    err_is c.from_residual.result (IsConfigFault (map (λ word. word.now) c.args.arguments.now)) fault c.from_residual.ensures.1
    (bad_word c.args.arguments.now c.loop-argument.argument-index _ fault (search rules) c.in_err-add_topic.ensures.fault)
