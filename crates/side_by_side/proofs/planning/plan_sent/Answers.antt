use Rattle.std.proofs.Common.{◌≡◌, true, rules}
use Rattle.cover_ranges.specs.Runs.{covers}
use Rattle.batch_codec.specs.Offsets.{first_offset}
use Rattle.side_by_side.proofs.Turns.{nothing_where}
use Rattle.side_by_side.proofs.planning.plan_sent.Goals as goal

pub returns-then-contains : goal.returns-then-contains
returns-then-contains g c =
    let seen : covers c.args.seen.now.runs (first_offset c.args.batch.now) ≡ true = search rules in
    nothing_where (covers c.args.seen.now.runs (first_offset c.args.batch.now)) c.args.batch.now c.args.plan.now.turns.items (g.S.BatchStore.batches c.args.plan.now.more) seen
