use Rattle.rotation_laws.proofs.Steps.{steps_lead}
use Rattle.rotation_laws.proofs.a_function_leads.Goals as goal

pub returns : goal.returns
returns g c = steps_lead
