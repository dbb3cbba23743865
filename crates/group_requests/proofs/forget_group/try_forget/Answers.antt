use Rattle.group_requests.proofs.ForgottenKeys.{forget_fails, forget_done}
use Rattle.group_requests.proofs.forget_group.try_forget.Goals as goal

pub returns-in-Some : goal.returns-in-Some
returns-in-Some g c = forget_fails c.args.state.now c.args.group.now c.in-Some.fault c.in-Some.ensures.faults

pub returns-in-None : goal.returns-in-None
returns-in-None g c = forget_done c.args.state.now c.args.group.now c.forget_keys.result c.forget_keys.new.state c.in-None.ensures.faults c.forget_keys.ensures
