use Rattle.broker_state.specs.ConfigValues.{topic_config}
use Rattle.broker_state.proofs.Names.{taken_by_a_topic, taken_by_no_topic}
use Rattle.broker_state.proofs.judging.is_taken.Goals as goal

-- src/judging.rt:36:1
pub returns-then-has_name : goal.returns-then-has_name
returns-then-has_name g c = taken_by_a_topic topic_config c.args.earlier.now c.args.name.now c.has_name.result c.if-has_name.true c.has_name.ensures

pub returns-else-has_name : goal.returns-else-has_name
returns-else-has_name g c = taken_by_no_topic topic_config c.args.earlier.now c.args.name.now c.has_name.result c.eq.result c.if-has_name.false c.has_name.ensures c.eq.ensures
