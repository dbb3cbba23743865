use Rattle.delta_bytes.proofs.OneBody.{one_body_fault, no_body_fault}
use Rattle.delta_bytes.proofs.laws.one_fault.Goals as goal

pub returns-clause-one : goal.returns-clause-one
returns-clause-one c = one_body_fault

pub returns-clause-none : goal.returns-clause-none
returns-clause-none c = no_body_fault
