use Rattle.std.proofs.Common.{◌∙◌, sym}
use Rattle.group_coordinator.proofs.Moves.{does_settle, does_settle_not}
use Rattle.group_coordinator.proofs.group.MemberGroup.settle.Goals as goal

pub returns-then-not-is_complete : goal.returns-then-not-is_complete
returns-then-not-is_complete g c = does_settle_not c.args.now c.args.ledger.now c.args.self.now (sym c.if-not-is_complete.true ∙ c.is_complete.ensures)

pub returns : goal.returns
returns g c =
    does_settle c.args.now c.args.ledger.now c.complete.new.ledger c.args.self.now c.complete.new.self (sym c.if-not-is_complete.false ∙ c.is_complete.ensures) c.complete.ensures
