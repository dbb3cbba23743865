use Rattle.std.proofs.Common.{refl, ◌∙◌}
use Rattle.std.specs.Int.{w32}
use Rattle.std.proofs.lemmas.Int.{to_z-of_z}
use Rattle.std.proofs.lemmas.Result.{IfOk-weaker}
use Rattle.group_coordinator.specs.Coordinators.{sync_fault}
use Rattle.group_coordinator.specs.Requests.{SyncRequest}
use Rattle.group_coordinator.proofs.Asking.{sync_refused, sync_released, sync_full}
use Rattle.group_coordinator.proofs.coordinator.Coordinator.sync.Goals as goal

pub returns-in-Some-clause-refuses : goal.returns-in-Some-clause-refuses
returns-in-Some-clause-refuses g c =
    let q : SyncRequest = record { group = c.args.group.now; generation = c.args.generation; member = c.args.member.now; parts = c.args.parts } in
    sync_refused c.args.self.now c.args.session q c.sync_fault.result c.in-Some.error (c.sync_fault.ensures c.args.parts ∙ (λ i. sync_fault c.args.self.now (record { group = c.args.group.now; generation = to_z-of_z w32 c.args.generation c.ranges.generation i; member = c.args.member.now; parts = c.args.parts }))) c.in-Some.is

pub returns-clause-syncs : goal.returns-clause-syncs
returns-clause-syncs g c =
    let q : SyncRequest = record { group = c.args.group.now; generation = c.args.generation; member = c.args.member.now; parts = c.args.parts } in
    IfOk-weaker c.sync_group.result _ _
    (λ e replied. sync_released c.args.self.now c.sync_group.new.self c.args.session q c.sync_fault.result (c.sync_fault.ensures c.args.parts ∙ (λ i. sync_fault c.args.self.now (record { group = c.args.group.now; generation = to_z-of_z w32 c.args.generation c.ranges.generation i; member = c.args.member.now; parts = c.args.parts }))) c.in-None.is e (replied q refl refl refl))
    c.sync_group.ensures.replies

pub returns-clause-refuses : goal.returns-clause-refuses
returns-clause-refuses g c =
    let q : SyncRequest = record { group = c.args.group.now; generation = c.args.generation; member = c.args.member.now; parts = c.args.parts } in
    IfOk-weaker c.sync_group.result _ _
    (λ e replied. sync_full c.args.self.now c.sync_group.new.self c.args.session q c.sync_fault.result (c.sync_fault.ensures c.args.parts ∙ (λ i. sync_fault c.args.self.now (record { group = c.args.group.now; generation = to_z-of_z w32 c.args.generation c.ranges.generation i; member = c.args.member.now; parts = c.args.parts }))) c.in-None.is e (replied q refl refl refl))
    c.sync_group.ensures.replies
