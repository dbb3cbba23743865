use Rattle.std.proofs.Common.{List, Bool, length, ap, ◌∙◌}
use Rattle.batch_codec.specs.Thinning.{thinned}
use Rattle.deltas.specs.Patches.{with_listed}
use Rattle.delta_bytes.specs.Judging.{offsets_of}
use Rattle.side_by_side.proofs.Turns.{stays_on_ok, replaced_by}
use Rattle.side_by_side.proofs.planning.plan_listed.Goals as goal

pub returns-then-has_all_listed : goal.returns-then-has_all_listed
returns-then-has_all_listed g c =
    stays_on_ok c.add_turn.result c.args.batch.now (with_listed (offsets_of c.args.offsets.now) c.args.batch.now) c.args.plan.now.turns.items c.add_turn.new.plan.turns.items
    (g.S.BatchStore.batches c.args.plan.now.more) (g.S.BatchStore.batches c.add_turn.new.plan.more) (c.has_all_listed.ensures c.if-has_all_listed.true) c.add_turn.ensures.turns c.add_turn.ensures.more

pub replace-requires-clause-flags : goal.replace-requires-clause-flags
replace-requires-clause-flags g c = ap (λ (keep : List Bool). length keep) c.deref.ensures.value ∙ c.in_ok-keep.ensures.as_many

pub returns : goal.returns
returns g c =
    replaced_by c.replace.result c.args.batch.now (thinned c.deref.result.now c.args.batch.now) (with_listed (offsets_of c.args.offsets.now) c.args.batch.now) c.args.plan.now.turns.items c.replace.new.plan.turns.items
    (g.S.BatchStore.batches c.args.plan.now.more) (g.S.BatchStore.batches c.replace.new.plan.more) (ap (λ (keep : List Bool). thinned keep c.args.batch.now) c.deref.ensures.value ∙ c.in_ok-keep.ensures.listed) c.replace.ensures
