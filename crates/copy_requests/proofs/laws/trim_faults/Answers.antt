use Rattle.copy_requests.proofs.Trims.{accepted_passes, passes_accepted, refused_fails}
use Rattle.copy_requests.proofs.laws.trim_faults.Goals as goal

pub returns-clause-accepted : goal.returns-clause-accepted
returns-clause-accepted c = λ x start. (passes_accepted x start, accepted_passes x start)

pub returns-clause-refusal_is_fault : goal.returns-clause-refusal_is_fault
returns-clause-refusal_is_fault c = refused_fails
