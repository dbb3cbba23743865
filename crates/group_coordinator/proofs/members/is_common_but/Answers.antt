use Rattle.std.proofs.Common.{◌∙◌}
use Rattle.group_coordinator.specs.Members.{has_id, knows}
use Rattle.group_coordinator.proofs.Rejoining.{all_but}
use Rattle.group_coordinator.proofs.members.is_common_but.Goals as goal

pub returns : goal.returns
returns g c = c.are_or_know.ensures ∙ all_but (has_id c.args.id.now) (λ m. knows c.args.name.now m.protocols) c.args.members.now
