use Rattle.std.proofs.lemmas.Bool.{MatchBool-at_true}
use Rattle.subcommands.proofs.Streams.{takes_then}
use Rattle.subcommands.proofs.table.take_batches.Goals as goal

pub loop-preserved : goal.loop-preserved
loop-preserved g c =
    let one = MatchBool-at_true _ _ c.if-branch.true c.in_ok-take_batch.ensures.more in
    takes_then c.args.held.now.items c.loop.held.items c.take_batch.new.held.items c.args.intake.now.log c.loop.intake.log c.take_batch.new.intake.log c.args.intake.now.count c.loop.intake.count c.take_batch.new.intake.count c.loop.invariant one
