use Rattle.std.proofs.Common.{Option, None, sym, ap, subst}
use Rattle.batch_codec.specs.Values.{BatchValue}
use Rattle.side_by_side.specs.Plans.{Adds}
use Rattle.side_by_side.proofs.Turns.{nothing}
use Rattle.side_by_side.specs.declared.next.Next.{Next}
use Rattle.side_by_side.specs.Steps.{kept_of, step_of}
use Rattle.side_by_side.proofs.planning.let_go.Goals as goal

pub returns-in-Done : goal.returns-in-Done
returns-in-Done g c =
    subst (λ (z : Option BatchValue). Adds z None c.args.plan.now.turns.items c.args.plan.now.turns.items (g.S.BatchStore.batches c.args.plan.now.more) (g.S.BatchStore.batches c.args.plan.now.more))
    (sym (ap (λ (n : Next). kept_of (step_of n)) c.in-Done.is)) (nothing c.args.plan.now.turns.items (g.S.BatchStore.batches c.args.plan.now.more))

pub returns-in-Told : goal.returns-in-Told
returns-in-Told g c =
    subst (λ (z : Option BatchValue). Adds z None c.args.plan.now.turns.items c.args.plan.now.turns.items (g.S.BatchStore.batches c.args.plan.now.more) (g.S.BatchStore.batches c.args.plan.now.more))
    (sym (ap (λ (n : Next). kept_of (step_of n)) c.in-Told.is)) (nothing c.args.plan.now.turns.items (g.S.BatchStore.batches c.args.plan.now.more))
