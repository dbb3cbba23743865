use Rattle.std.proofs.Common.{Ok, subst}
use Rattle.group_offsets.specs.Groups.{group_keys}
use Rattle.group_requests.specs.GroupPartition.{group_content}
use Rattle.group_requests.specs.ForgetGroup.Entries.{IsBatchOf}
use Rattle.group_requests.proofs.ForgottenKeys.{few_records, nothing_forgotten, batch_appended}
use Rattle.group_requests.proofs.forget_group.forget_keys.Goals as goal

pub append_counted-requires-clause-few : goal.append_counted-requires-clause-few
append_counted-requires-clause-few g c =
    let keys = group_keys (group_content c.args.state.now) c.args.group.now in
    let is = subst (λ batch. IsBatchOf keys (Ok batch)) c.in-Ok-Some.field-0-is c.in-Ok-Some.ensures in
    few_records keys c.in-Ok-Some.batch is.1 is.2

pub returns-in-Ok-Some : goal.returns-in-Ok-Some
returns-in-Ok-Some g c =
    let keys = group_keys (group_content c.args.state.now) c.args.group.now in
    let is = subst (λ batch. IsBatchOf keys (Ok batch)) c.in-Ok-Some.field-0-is c.in-Ok-Some.ensures in
    batch_appended c.args.state.now c.append_counted.new.state keys c.in-Ok-Some.batch c.append_counted.result is.0 is.2 is.3 c.append_counted.ensures

pub returns-in-Ok-None : goal.returns-in-Ok-None
returns-in-Ok-None g c =
    let keys = group_keys (group_content c.args.state.now) c.args.group.now in
    nothing_forgotten c.args.state.now keys (subst (λ batch. IsBatchOf keys (Ok batch)) c.in-Ok-None.field-0-is c.in-Ok-None.ensures)
