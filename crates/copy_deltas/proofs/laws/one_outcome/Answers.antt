use Rattle.copy_deltas.proofs.Outcomes.{some_outcome, one_outcome}
use Rattle.copy_deltas.proofs.laws.one_outcome.Goals as goal

pub returns-clause-one_holds : goal.returns-clause-one_holds
returns-clause-one_holds g c = some_outcome c.args.copy.now c.args.bytes.now c.check_delta.result c.check_delta.ensures.accepts c.check_delta.ensures.refuses c.check_delta.ensures.takes_no_memory

pub returns-clause-no_other : goal.returns-clause-no_other
returns-clause-no_other g c = one_outcome

pub returns-clause-memory : goal.returns-clause-memory
returns-clause-memory g c = λ copy bytes. (λ takes. takes, λ takes. takes)
