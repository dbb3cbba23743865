use Rattle.copy_requests.proofs.Patched.{takes_passes, passes_takes, refused_fails}
use Rattle.copy_requests.proofs.laws.delta_faults.Goals as goal

pub returns-clause-accepted : goal.returns-clause-accepted
returns-clause-accepted c = λ here bytes is fits. (passes_takes here bytes is fits, takes_passes here bytes is fits)

pub returns-clause-refusal_is_fault : goal.returns-clause-refusal_is_fault
returns-clause-refusal_is_fault c = λ here bytes e is fits. refused_fails here bytes is fits e
