use Rattle.std.proofs.Common.{◌<◌, length, sym, subst}
use Rattle.std.specs.Prelude.{Option, IfSome}
use Rattle.cleaning_policy.specs.declared.values.Pass.{Pass}
use Rattle.cleaning_policy.proofs.Turns.{next_within}
use Rattle.cleaning_policy.proofs.policy.Policy.next_pass.Goals as goal

pub returns-clause-within : goal.returns-clause-within
returns-clause-within g c =
    subst (λ (r : Option Pass). IfSome r (λ q. q.frame.partition < length c.args.self.now.parts)) (sym c.find_pass.ensures) (next_within c.args.now c.args.self.now c.args.self.now.pass)
