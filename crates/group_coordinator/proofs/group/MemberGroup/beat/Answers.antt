use Rattle.std.specs.Prelude.{if◌then◌else◌}
use Rattle.group_coordinator.specs.Members.{Member, beat, has_id}
use Rattle.group_coordinator.proofs.Changing.{changed_in}
use Rattle.group_coordinator.proofs.group.MemberGroup.beat.Goals as goal

pub returns : goal.returns
returns g c =
    changed_in (record { name = c.self.inside.name.items; kind = c.self.inside.kind.items; generation = c.self.inside.generation; phase = c.self.inside.phase; leader = c.self.inside.leader; protocol = c.self.inside.protocol; members = c.self.inside.members.items }) c.args.self.now
    (λ (m : Member). if has_id c.args.id.now m then beat c.args.now m else m) c.self.inside.members.len c.as_mut_slice.result.now c.beat.new.members c.self.view_is c.as_mut_slice.ensures.value c.as_mut_slice.ensures.len c.beat.ensures
