use Rattle.std.proofs.Common.{sym, subst}
use Rattle.std.specs.Prelude.{◌↔◌, IsTrue}
use Rattle.side_by_side.specs.declared.next.Next.{Next}
use Rattle.side_by_side.specs.Steps.{step_of}
use Rattle.side_by_side.specs.Fitting.{CanHave}
use Rattle.side_by_side.proofs.judging.can_have.Goals as goal

pub returns-in-Told : goal.returns-in-Told
returns-in-Told g c sender seen = subst (λ (n : Next). IsTrue c.can_be_told.result ↔ CanHave c.args.copy.now.runs sender (step_of n)) (sym c.in-Told.is) (c.can_be_told.ensures sender)
