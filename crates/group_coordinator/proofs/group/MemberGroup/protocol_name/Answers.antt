use Rattle.std.proofs.Common.{rules}
use Rattle.group_coordinator.proofs.Telling.{follows_some, follows_none}
use Rattle.group_coordinator.proofs.group.MemberGroup.protocol_name.Goals as goal

pub returns-in-Some : goal.returns-in-Some
returns-in-Some g c = follows_some c.args.self.now c.in-Some.index c.index.result.now c.protocols.result.now c.protocol_name.result.now (search rules) (search rules) (search rules) (search rules)

pub returns-in-None : goal.returns-in-None
returns-in-None g c = follows_none c.args.self.now (search rules)
