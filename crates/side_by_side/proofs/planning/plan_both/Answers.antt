use Rattle.std.proofs.Common.{List, Bool, length, ap, ◌∙◌}
use Rattle.batch_codec.specs.Thinning.{thinned}
use Rattle.content.specs.Records.{with_common_records}
use Rattle.side_by_side.proofs.Turns.{stays_on_ok, replaced_by}
use Rattle.side_by_side.proofs.planning.plan_both.Goals as goal

pub returns-then-has_all_of : goal.returns-then-has_all_of
returns-then-has_all_of g c =
    stays_on_ok c.add_turn.result c.args.x.now (with_common_records c.args.x.now c.args.y.now) c.args.plan.now.turns.items c.add_turn.new.plan.turns.items
    (g.S.BatchStore.batches c.args.plan.now.more) (g.S.BatchStore.batches c.add_turn.new.plan.more) (c.has_all_of.ensures.has_all c.if-has_all_of.true) c.add_turn.ensures.turns c.add_turn.ensures.more

pub replace-requires-clause-flags : goal.replace-requires-clause-flags
replace-requires-clause-flags g c = ap (λ (keep : List Bool). length keep) c.deref.ensures.value ∙ c.in_ok-keep.ensures.as_many

pub returns : goal.returns
returns g c =
    replaced_by c.replace.result c.args.x.now (thinned c.deref.result.now c.args.x.now) (with_common_records c.args.x.now c.args.y.now) c.args.plan.now.turns.items c.replace.new.plan.turns.items
    (g.S.BatchStore.batches c.args.plan.now.more) (g.S.BatchStore.batches c.replace.new.plan.more) (ap (λ (keep : List Bool). thinned keep c.args.x.now) c.deref.ensures.value ∙ c.in_ok-keep.ensures.common) c.replace.ensures
