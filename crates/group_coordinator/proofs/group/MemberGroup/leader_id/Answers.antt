use Rattle.std.proofs.Common.{rules}
use Rattle.group_coordinator.specs.Groups.{is_numbered}
use Rattle.group_coordinator.proofs.Telling.{some_of, none_of}
use Rattle.group_coordinator.proofs.group.MemberGroup.leader_id.Goals as goal

pub returns-in-Some : goal.returns-in-Some
returns-in-Some g c = some_of (λ m. m.id) (is_numbered c.args.self.now.leader) c.args.self.now.members c.in-Some.index c.index.result.now c.id.result.now (search rules) (search rules) (search rules)

pub returns-in-None : goal.returns-in-None
returns-in-None g c = none_of (λ m. m.id) (is_numbered c.args.self.now.leader) c.args.self.now.members (search rules)
