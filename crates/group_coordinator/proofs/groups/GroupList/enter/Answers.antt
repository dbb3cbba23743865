use Rattle.std.proofs.Common.{rules}
use Rattle.group_coordinator.proofs.Entering.{enters_new, enters_there, on_ok}
use Rattle.group_coordinator.proofs.groups.GroupList.enter.Goals as goal

pub returns-in-Some-clause-enters : goal.returns-in-Some-clause-enters
returns-in-Some-clause-enters g c =
    on_ok c.add_at.result (enters_there c.args.name.now c.args.kind.now c.args.member c.args.self.now c.add_at.new.self c.in-Some.index (search rules)) c.add_at.ensures.adds

pub returns-in-None-clause-enters : goal.returns-in-None-clause-enters
returns-in-None-clause-enters g c =
    on_ok c.push_new.result (enters_new c.args.name.now c.args.kind.now c.args.member c.args.self.now c.push_new.new.self (search rules)) c.push_new.ensures.adds
