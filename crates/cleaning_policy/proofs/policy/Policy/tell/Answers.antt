use Rattle.std.proofs.Common.{rules}
use Rattle.std.proofs.lemmas.Result.{on_ok_weaker}
use Rattle.cleaning_policy.proofs.Changing.{part_changed}
use Rattle.cleaning_policy.proofs.policy.Policy.tell.Goals as goal

pub returns-clause-tells : goal.returns-clause-tells
returns-clause-tells g c =
    rw (← c.self.view_is) (on_ok_weaker c.tell.result (λ e. part_changed _ c.args.partition _ c.index_mut.result.now c.tell.new.self (search rules) c.index_mut.ensures.value e) c.tell.ensures.tells)
