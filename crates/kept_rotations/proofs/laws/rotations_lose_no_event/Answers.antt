use Rattle.kept_rotations.proofs.Leading.{leads_on}
use Rattle.kept_rotations.proofs.laws.rotations_lose_no_event.Goals as goal

pub returns-clause-finds : goal.returns-clause-finds
returns-clause-finds c = λ first after acts events events' made now left.
    c.rotations_lose_nothing.ensures.finds first after acts events events' made now left (leads_on c.frames_lead_to_one_state.ensures.one_state)

pub returns-clause-finds_no_other : goal.returns-clause-finds_no_other
returns-clause-finds_no_other c = λ first recovered acts events events' made now left.
    c.rotations_lose_nothing.ensures.finds_no_other first recovered acts events events' made now left (leads_on c.frames_lead_to_one_state.ensures.one_state)
