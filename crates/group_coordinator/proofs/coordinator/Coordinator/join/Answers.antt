use Rattle.std.proofs.lemmas.Result.{IfOk-weaker}
use Rattle.group_coordinator.proofs.Asking.{join_full, join_refused, join_released}
use Rattle.group_coordinator.proofs.coordinator.Coordinator.join.Goals as goal

pub returns-in-Some-clause-refuses : goal.returns-in-Some-clause-refuses
returns-in-Some-clause-refuses g c = join_refused c.args.self.now c.args.session c.args.client.now c.args.request c.join_fault.result c.in-Some.error c.join_fault.ensures c.in-Some.is

pub returns-in-None-clause-joins : goal.returns-in-None-clause-joins
returns-in-None-clause-joins g c =
    IfOk-weaker c.join_group.result _ _
    (λ e replied. join_released c.args.self.now c.join_group.new.self c.args.session c.args.client.now c.args.request c.join_fault.result c.join_fault.ensures c.in-None.is e replied) c.join_group.ensures.replies

pub returns-in-None-clause-refuses : goal.returns-in-None-clause-refuses
returns-in-None-clause-refuses g c =
    IfOk-weaker c.join_group.result _ _
    (λ e replied. join_full c.args.self.now c.join_group.new.self c.args.session c.args.client.now c.args.request c.join_fault.result c.join_fault.ensures c.in-None.is e replied) c.join_group.ensures.replies
