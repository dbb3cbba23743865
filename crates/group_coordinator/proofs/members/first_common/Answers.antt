use Rattle.std.proofs.Common.{rules}
use Rattle.group_coordinator.specs.Members.{is_common}
use Rattle.group_coordinator.proofs.Leading.{place_some, place_none}
use Rattle.group_coordinator.proofs.members.first_common.Goals as goal

pub returns-in-Some : goal.returns-in-Some
returns-in-Some g c = place_some (λ p. is_common c.args.members.now p.name) c.args.protocols.now c.in-Some.index (search rules)

pub returns-in-None : goal.returns-in-None
returns-in-None g c = search (rules, place_none (λ p. is_common c.args.members.now p.name) c.args.protocols.now (search rules))
