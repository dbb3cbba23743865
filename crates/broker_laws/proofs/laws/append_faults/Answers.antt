use Rattle.broker_state.proofs.AppendFaults.{refusal_is_fault, new_has_no_fault, repeat_has_no_fault}
use Rattle.broker_laws.proofs.laws.append_faults.Goals as goal

pub returns-clause-refusal_is_fault : goal.returns-clause-refusal_is_fault
returns-clause-refusal_is_fault c = refusal_is_fault

pub returns-clause-new_has_no_fault : goal.returns-clause-new_has_no_fault
returns-clause-new_has_no_fault c = new_has_no_fault

pub returns-clause-repeat_has_no_fault : goal.returns-clause-repeat_has_no_fault
returns-clause-repeat_has_no_fault c = repeat_has_no_fault
