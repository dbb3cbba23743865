use Rattle.broker_laws.proofs.GivenIds.{all_in_a_row, ids_in_a_row}
use Rattle.broker_laws.proofs.laws.producer_ids_are_in_a_row.Goals as goal

pub returns-clause-from_the_start : goal.returns-clause-from_the_start
returns-clause-from_the_start c = λ g after qs outs. ids_in_a_row g qs outs after

pub returns-clause-from_any_state : goal.returns-clause-from_any_state
returns-clause-from_any_state c = λ s after qs outs sound all. all_in_a_row s qs outs after sound.next_producer all
