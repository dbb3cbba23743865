use Rattle.group_coordinator.specs.Joining.{rejoined}
use Rattle.group_coordinator.proofs.Rejoining.{set_in}
use Rattle.group_coordinator.proofs.group.MemberGroup.put_rejoined.Goals as goal

pub returns : goal.returns
returns g c =
    set_in (record { name = c.self.inside.name.items; kind = c.self.inside.kind.items; generation = c.self.inside.generation; phase = c.self.inside.phase; leader = c.self.inside.leader; protocol = c.self.inside.protocol; members = c.self.inside.members.items }) c.args.self.now
    c.args.index c.index_mut.result.now c.rejoin.new.self c.args.request.member (rejoined c.args.now c.args.session c.args.request) c.self.view_is c.requires.only c.index_mut.ensures.value c.rejoin.ensures
