use Rattle.std.proofs.Common.{ap, ◌∙◌}
use Rattle.group_coordinator.specs.declared.values.Wait.TheVariants.{Told}
use Rattle.group_coordinator.specs.Joining.{waits, with_member}
use Rattle.group_coordinator.proofs.Rejoining.{does_called}
use Rattle.group_coordinator.proofs.group.MemberGroup.tell.Goals as goal

pub returns : goal.returns
returns g c =
    does_called c.args.now c.args.id.now (waits (Told c.args.session)) c.args.ledger.now c.call.new.ledger c.args.self.now c.wait_for.new.self c.call.ensures.refuses
    (c.wait_for.ensures ∙ ap (with_member c.args.id.now (waits (Told c.args.session))) c.call.ensures.calls)
