use Rattle.std.proofs.Common.{None, [], sym, ap, ◌∙◌, subst}
use Rattle.side_by_side.specs.Plans.{Adds}
use Rattle.side_by_side.proofs.Turns.{nothing}
use Rattle.delta_bytes.specs.declared.entries.EntryView.{EntryView}
use Rattle.delta_bytes.specs.EntryViews.{entry_of}
use Rattle.side_by_side.specs.Steps.{left_over}
use Rattle.side_by_side.specs.Steps.Step.{Told}
use Rattle.side_by_side.proofs.Planned.{unseen_comes}
use Rattle.side_by_side.proofs.planning.plan_told.Goals as goal

pub plan_sent-requires-clause-behind : goal.plan_sent-requires-clause-behind
plan_sent-requires-clause-behind g c =
    λ unseen.
    (c.requires.room [] c.in-Sent.batch (ap (λ (x : EntryView). left_over c.args.seen.now.runs [] (Told (entry_of x))) c.in-Sent.is ∙ unseen_comes c.args.seen.now.runs [] c.in-Sent.batch unseen)).1

pub returns-in-Listed : goal.returns-in-Listed
returns-in-Listed g c =
    λ sender.
    subst (λ (x : EntryView). Adds None (left_over c.args.seen.now.runs sender (Told (entry_of x))) c.args.plan.now.turns.items c.args.plan.now.turns.items (g.S.BatchStore.batches c.args.plan.now.more) (g.S.BatchStore.batches c.args.plan.now.more))
    (sym c.in-Listed.is) (nothing c.args.plan.now.turns.items (g.S.BatchStore.batches c.args.plan.now.more))
