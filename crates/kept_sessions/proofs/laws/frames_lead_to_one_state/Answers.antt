use Rattle.kept_sessions.proofs.OneState.{one_state, of_bytes}
use Rattle.kept_sessions.proofs.laws.frames_lead_to_one_state.Goals as goal

pub returns-clause-one_state : goal.returns-clause-one_state
returns-clause-one_state c = one_state

pub returns-clause-of_bytes : goal.returns-clause-of_bytes
returns-clause-of_bytes c = of_bytes
