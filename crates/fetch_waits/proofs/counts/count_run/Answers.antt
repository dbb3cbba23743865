use Rattle.std.proofs.Common.{◌≡◌, ◌+◌, ◌≤◌, length, arith, rules}
use Rattle.fetch_waits.proofs.Runs.{counted_none, counted_more, counted_all}
use Rattle.fetch_waits.proofs.counts.count_run.Goals as goal

pub loop-start-init : goal.loop-start-init
loop-start-init g c = (counted_none c.args.copy.now.kept c.args.run.start, omega arith, omega arith)

pub loop-start-preserved : goal.loop-start-preserved
loop-start-preserved g c =
    let so_far = c.loop-start.invariant in
    let next = c.piece-next.ensures in
    let adds : c.in_ok-bytes.bytes ≡ c.loop-start.bytes + length c.piece-next.result.0.now = search rules in (
      counted_more c.args.copy.now.kept c.args.run.start c.loop-start.start c.piece-next.result.1 c.loop-start.bytes c.in_ok-bytes.bytes c.piece-next.result.0.now so_far.0 so_far.1 next.goes_on next.bytes adds,
      omega (arith, so_far.1, next.goes_on),
      omega (arith, next.within),
    )

pub returns : goal.returns
returns g c =
    let so_far = c.loop-start.invariant in
    let reached : c.args.run.end ≤ c.loop-start.start = search rules in
    counted_all c.args.copy.now.kept c.args.run.start c.loop-start.start c.args.run.end c.loop-start.bytes so_far.0 so_far.1 reached so_far.2
