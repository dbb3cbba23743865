use Rattle.copy_requests.proofs.Deliveries.{refusal_is_fault, accepted_has_no_fault}
use Rattle.copy_requests.proofs.laws.deliver_faults.Goals as goal

pub returns-clause-refusal_is_fault : goal.returns-clause-refusal_is_fault
returns-clause-refusal_is_fault c = refusal_is_fault

pub returns-clause-accepted_has_no_fault : goal.returns-clause-accepted_has_no_fault
returns-clause-accepted_has_no_fault c = accepted_has_no_fault
