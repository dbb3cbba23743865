use Rattle.std.proofs.Common.{◌≡◌, ◌∙◌, ap, sym}
use Rattle.group_coordinator.specs.Giving.{parts_for}
use Rattle.group_coordinator.specs.Groups.{Group}
use Rattle.group_coordinator.specs.Joining.{assigned}
use Rattle.group_coordinator.proofs.Changing.{stable_in}
use Rattle.group_coordinator.proofs.group.MemberGroup.give_parts.Goals as goal

pub returns-clause-gives : goal.returns-clause-gives
returns-clause-gives g c = λ ps is.
    let same : c.as_mut_slice.result.now ≡ c.args.self.now.members = c.as_mut_slice.ensures.value ∙ ap (λ (x : Group). x.members) c.self.view_is in
    stable_in (record { name = c.self.inside.name.items; kind = c.self.inside.kind.items; generation = c.self.inside.generation; phase = c.self.inside.phase; leader = c.self.inside.leader; protocol = c.self.inside.protocol; members = c.self.inside.members.items }) c.args.self.now
    (assigned c.args.now ps) c.self.inside.members.len c.as_mut_slice.result.now c.give.new.members c.self.view_is c.as_mut_slice.ensures.value c.as_mut_slice.ensures.len (c.give.ensures ps (is ∙ ap (parts_for ps) (sym same)))
