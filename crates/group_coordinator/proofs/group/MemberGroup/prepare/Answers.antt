use Rattle.std.proofs.Common.{◌+◌, ◌∙◌, ap, sym}
use Rattle.group_coordinator.specs.Groups.{Group, is_preparing}
use Rattle.group_coordinator.proofs.Moves.{does_prepare}
use Rattle.group_coordinator.proofs.group.MemberGroup.prepare.Goals as goal

pub returns : goal.returns
returns g c =
    does_prepare c.args.settings c.args.now c.later.result c.args.ledger.now c.refuse.new.ledger c.args.self.now c.stop_syncing.new.self
    (sym c.if-is_preparing.false ∙ c.is_preparing.ensures ∙ ap (λ (x : Group). is_preparing x.phase) c.self.view_is) (c.later.ensures ∙ (λ i. c.args.now + c.joining_time.ensures i))
    c.refuse.ensures c.stop_syncing.ensures
