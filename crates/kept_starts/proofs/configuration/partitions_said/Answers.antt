use Rattle.std.proofs.Common.{rules}
use Rattle.broker_state.specs.ConfigValues.{topic_config}
use Rattle.kept_starts.proofs.Asked.{said_there, said_none}
use Rattle.kept_starts.proofs.configuration.partitions_said.Goals as goal

pub returns-in-Some : goal.returns-in-Some
returns-in-Some g c =
    said_there topic_config c.args.config.now.topics.items c.deref.result.now c.args.name.now c.in-Some.index c.index.result.now c.in-Some.ensures c.deref.ensures.value (search rules)

pub returns-in-None : goal.returns-in-None
returns-in-None g c = said_none topic_config c.args.config.now.topics.items c.deref.result.now c.args.name.now c.in-None.ensures c.deref.ensures.value
