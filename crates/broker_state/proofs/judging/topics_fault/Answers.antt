use Rattle.std.proofs.Common.{refl}
use Rattle.broker_state.specs.ConfigValues.{topic_config}
use Rattle.broker_state.proofs.Names.{fault_found, next_judged, none_found}
use Rattle.broker_state.proofs.judging.topics_fault.Goals as goal

pub loop-i-init : goal.loop-i-init
loop-i-init g c = refl

pub returns-then-is_some : goal.returns-then-is_some
returns-then-is_some g c =
    fault_found topic_config c.args.topics.now c.loop-i.i _ c.loop-i.invariant c.index-topics-i.result c.topic_fault-fault.result c.is_some.result c.loop-i-test.true c.index-topics-i.is c.topic_fault-fault.ensures c.is_some.ensures c.if-is_some.true

pub loop-i-preserved : goal.loop-i-preserved
loop-i-preserved g c =
    next_judged topic_config c.args.topics.now c.loop-i.i _ c.loop-i.invariant c.index-topics-i.result c.topic_fault-fault.result c.is_some.result c.loop-i-test.true c.index-topics-i.is c.topic_fault-fault.ensures c.is_some.ensures c.if-is_some.false

pub returns : goal.returns
returns g c = none_found topic_config c.args.topics.now c.loop-i.i _ c.loop-i.invariant c.loop-i-test.false
