use Rattle.std.proofs.Common.{arith, ◌∙◌, sym}
use Rattle.group_coordinator.proofs.Leading.{leads_none, leads_on, first_leads}
use Rattle.group_coordinator.proofs.members.next_leader.Goals as goal

pub returns-then-is_empty : goal.returns-then-is_empty
returns-then-is_empty g c = leads_none c.args.leader c.args.members.now (grind (arith, c.is_empty.ensures, c.if-is_empty.true))

pub returns-then-is_there : goal.returns-then-is_there
returns-then-is_there g c = leads_on c.args.leader c.args.members.now (sym c.if-is_there.true ∙ c.is_there.ensures)

pub returns : goal.returns
returns g c =
    c.number.ensures
    ∙ first_leads c.args.leader c.args.members.now c.index-members-0.result (grind (arith, c.is_empty.ensures, c.if-is_empty.false)) (sym c.if-is_there.false ∙ c.is_there.ensures) c.index-members-0.is
