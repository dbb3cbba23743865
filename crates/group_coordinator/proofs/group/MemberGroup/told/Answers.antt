use Rattle.std.proofs.Common.{ap}
use Rattle.group_coordinator.specs.Groups.{Group}
use Rattle.group_coordinator.proofs.Telling.{told_as}
use Rattle.group_coordinator.proofs.group.MemberGroup.told.Goals as goal

pub returns : goal.returns
returns g c = λ m at.
    told_as c.args.self.now c.self.inside.members.items c.args.index m c.index.result.now c.new.result c.self.inside.generation c.protocol_name.result.now c.leader_id.result.now c.id.result.now c.listed.result.now c.new.ensures
    (ap (λ (x : Group). x.generation) c.self.view_is) c.protocol_name.ensures c.leader_id.ensures (ap (λ (x : Group). x.members) c.self.view_is) c.requires.within c.index.ensures at c.id.ensures (c.listed.ensures m at)
