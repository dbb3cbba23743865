use Rattle.std.proofs.Common.{rules, ◌∙◌}
use Rattle.std.specs.List.{position_or_len}
use Rattle.group_coordinator.specs.Members.{is_common}
use Rattle.group_coordinator.proofs.Leading.{common_some, common_none}
use Rattle.group_coordinator.proofs.members.common_protocol.Goals as goal

pub returns-in-Some : goal.returns-in-Some
returns-in-Some g c =
    common_some c.args.leader c.args.members.now c.in-Some.index c.index-members-index.result c.first_common.result (search rules) (search rules)
    (c.first_common.ensures ∙ (λ i. position_or_len (λ p. is_common c.args.members.now p.name) (c.protocols.ensures i)))

pub returns-in-None : goal.returns-in-None
returns-in-None g c = common_none c.args.leader c.args.members.now (search rules)
