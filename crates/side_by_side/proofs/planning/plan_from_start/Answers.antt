use Rattle.std.proofs.Common.{ℤ, sym, ap, ◌∙◌, subst}
use Rattle.std.specs.Prelude.{Some, None, OnOk}
use Rattle.cover_ranges.specs.Runs.{Runs}
use Rattle.side_by_side.specs.Plans.{EndBefore, Adds}
use Rattle.side_by_side.proofs.Turns.{nothing}
use Rattle.delta_bytes.specs.EntryViews.{entry_of}
use Rattle.side_by_side.specs.declared.next.Next.{Next}
use Rattle.side_by_side.specs.Steps.{kept_of, left_over, step_of}
use Rattle.side_by_side.specs.Steps.Step.{Told, Both}
use Rattle.side_by_side.proofs.Planned.{told_alone, both_leave, at_any}
use Rattle.side_by_side.proofs.planning.plan_from_start.Goals as goal

pub plan_told-requires-clause-room : goal.plan_told-requires-clause-room
plan_told-requires-clause-room g c =
    λ other z e.
    c.requires.room z
    (ap (λ (n : Next). left_over c.args.copy.now.runs c.args.sender.now.runs (step_of n)) c.in-Told.is ∙ told_alone c.args.copy.now.runs c.args.sender.now.runs other (entry_of c.in-Told.entry) ∙ e)

pub plan_kept_and_told-requires-clause-behind : goal.plan_kept_and_told-requires-clause-behind
plan_kept_and_told-requires-clause-behind g c =
    let left = both_leave c.args.copy.now.runs c.args.sender.now.runs c.in-Both.batch (entry_of c.in-Both.entry) in
    subst (λ (o : ℤ). EndBefore o (g.S.BatchStore.batches c.args.plan.now.more)) left.2
    (c.requires.room left.0 (ap (λ (n : Next). left_over c.args.copy.now.runs c.args.sender.now.runs (step_of n)) c.in-Both.is ∙ left.1)).1

pub returns-in-Done : goal.returns-in-Done
returns-in-Done g c =
    subst (λ (n : Next). Adds (kept_of (step_of n)) (left_over c.args.copy.now.runs c.args.sender.now.runs (step_of n)) c.args.plan.now.turns.items c.args.plan.now.turns.items (g.S.BatchStore.batches c.args.plan.now.more) (g.S.BatchStore.batches c.args.plan.now.more))
    (sym c.in-Done.is) (nothing c.args.plan.now.turns.items (g.S.BatchStore.batches c.args.plan.now.more))

pub returns-in-Told : goal.returns-in-Told
returns-in-Told g c =
    subst (λ (n : Next).
    OnOk c.plan_told.result (Adds (kept_of (step_of n)) (left_over c.args.copy.now.runs c.args.sender.now.runs (step_of n)) c.args.plan.now.turns.items c.plan_told.new.plan.turns.items (g.S.BatchStore.batches c.args.plan.now.more) (g.S.BatchStore.batches c.plan_told.new.plan.more)))
    (sym c.in-Told.is)
    (at_any c.plan_told.result
    (λ (sender : Runs). Adds None (left_over c.args.copy.now.runs sender (Told (entry_of c.in-Told.entry))) c.args.plan.now.turns.items c.plan_told.new.plan.turns.items (g.S.BatchStore.batches c.args.plan.now.more) (g.S.BatchStore.batches c.plan_told.new.plan.more))
    c.args.sender.now.runs c.plan_told.ensures)

pub returns-in-Both : goal.returns-in-Both
returns-in-Both g c =
    subst (λ (n : Next).
    OnOk c.plan_kept_and_told.result (Adds (kept_of (step_of n)) (left_over c.args.copy.now.runs c.args.sender.now.runs (step_of n)) c.args.plan.now.turns.items c.plan_kept_and_told.new.plan.turns.items (g.S.BatchStore.batches c.args.plan.now.more) (g.S.BatchStore.batches c.plan_kept_and_told.new.plan.more)))
    (sym c.in-Both.is)
    (at_any c.plan_kept_and_told.result
    (λ (copy : Runs). Adds (Some c.in-Both.batch) (left_over copy c.args.sender.now.runs (Both c.in-Both.batch (entry_of c.in-Both.entry))) c.args.plan.now.turns.items c.plan_kept_and_told.new.plan.turns.items (g.S.BatchStore.batches c.args.plan.now.more) (g.S.BatchStore.batches c.plan_kept_and_told.new.plan.more))
    c.args.copy.now.runs
    (at_any c.plan_kept_and_told.result
    (λ (sender : Runs). (copy : Runs) → Adds (Some c.in-Both.batch) (left_over copy sender (Both c.in-Both.batch (entry_of c.in-Both.entry))) c.args.plan.now.turns.items c.plan_kept_and_told.new.plan.turns.items (g.S.BatchStore.batches c.args.plan.now.more) (g.S.BatchStore.batches c.plan_kept_and_told.new.plan.more))
    c.args.sender.now.runs c.plan_kept_and_told.ensures))
