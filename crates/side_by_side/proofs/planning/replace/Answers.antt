use Rattle.std.proofs.Common.{sym, subst}
use Rattle.batch_codec.specs.Offsets.{first_offset}
use Rattle.batch_codec.specs.Thinning.{thinned}
use Rattle.side_by_side.specs.Plans.{EndBefore}
use Rattle.side_by_side.proofs.Turns.{replaced_on_ok}
use Rattle.side_by_side.proofs.planning.replace.Goals as goal

pub bring_thinned-requires-clause-behind : goal.bring_thinned-requires-clause-behind
bring_thinned-requires-clause-behind g c = subst (EndBefore (first_offset c.args.batch.now)) (sym c.add_turn.ensures.more) c.requires.behind

pub returns : goal.returns
returns g c =
    replaced_on_ok c.bring_thinned.result (thinned c.args.keep.now c.args.batch.now) c.args.plan.now.turns.items c.add_turn.new.plan.turns.items c.bring_thinned.new.plan.turns.items
    (g.S.BatchStore.batches c.args.plan.now.more) (g.S.BatchStore.batches c.add_turn.new.plan.more) (g.S.BatchStore.batches c.bring_thinned.new.plan.more)
    c.in_ok-add_turn.ensures.turns c.add_turn.ensures.more c.bring_thinned.ensures.turns c.bring_thinned.ensures.more
