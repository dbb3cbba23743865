use Rattle.std.proofs.Common.{refl}
use Rattle.group_coordinator.proofs.examples.a_small_group.Goals as goal

pub returns-clause-leader : goal.returns-clause-leader
returns-clause-leader c = refl

pub returns-clause-follower : goal.returns-clause-follower
returns-clause-follower c = refl

pub returns-clause-gives : goal.returns-clause-gives
returns-clause-gives c = refl

pub returns-clause-given : goal.returns-clause-given
returns-clause-given c = refl

pub returns-clause-heard : goal.returns-clause-heard
returns-clause-heard c = refl

pub returns-clause-silent : goal.returns-clause-silent
returns-clause-silent c = refl

pub returns-clause-anew : goal.returns-clause-anew
returns-clause-anew c = refl

pub returns-clause-away : goal.returns-clause-away
returns-clause-away c = refl

pub returns-clause-stays : goal.returns-clause-stays
returns-clause-stays c = refl

pub returns-clause-leaves : goal.returns-clause-leaves
returns-clause-leaves c = refl

pub returns-clause-left : goal.returns-clause-left
returns-clause-left c = refl

pub returns-clause-again : goal.returns-clause-again
returns-clause-again c = refl

pub returns-clause-joined : goal.returns-clause-joined
returns-clause-joined c = refl

pub returns-clause-id : goal.returns-clause-id
returns-clause-id c = refl

pub returns-clause-least_session : goal.returns-clause-least_session
returns-clause-least_session c = refl

pub returns-clause-most_session : goal.returns-clause-most_session
returns-clause-most_session c = refl

pub returns-clause-least_rebalance : goal.returns-clause-least_rebalance
returns-clause-least_rebalance c = refl

pub returns-clause-most_bytes : goal.returns-clause-most_bytes
returns-clause-most_bytes c = refl

pub returns-clause-member_bytes : goal.returns-clause-member_bytes
returns-clause-member_bytes c = refl

pub returns-clause-protocol_bytes : goal.returns-clause-protocol_bytes
returns-clause-protocol_bytes c = refl

pub returns-clause-last_generation : goal.returns-clause-last_generation
returns-clause-last_generation c = refl

pub returns-clause-last_id : goal.returns-clause-last_id
returns-clause-last_id c = refl

pub returns-clause-last_time : goal.returns-clause-last_time
returns-clause-last_time c = refl
