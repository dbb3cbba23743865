use Rattle.std.proofs.Common.{◌≡◌, ◌-◌, length, arith, rules}
use Rattle.fetch_waits.proofs.Runs.{run_more, run_suffices}
use Rattle.fetch_waits.proofs.waiting.left_by_run.Goals as goal

pub loop-start-preserved : goal.loop-start-preserved
loop-start-preserved g c =
    let so_far = c.loop-start.invariant in
    let next = c.piece-next.ensures in
    let takes : c.saturating_sub-left.result ≡ c.loop-start.left - length c.piece-next.result.0.now = search rules in (
      run_more c.args.copy.now.kept c.args.run.start c.loop-start.start c.piece-next.result.1 c.args.missing c.loop-start.left c.saturating_sub-left.result c.piece-next.result.0.now so_far.0 so_far.1 next.goes_on next.bytes takes,
      omega (arith, so_far.1, next.goes_on),
      omega (arith, next.within),
    )

pub returns-else-left-gt0-2 : goal.returns-else-left-gt0-2
returns-else-left-gt0-2 g c =
    let so_far = c.loop-start.invariant in
    let none : c.loop-start.left ≡ 0 = search rules in
    run_suffices c.args.copy.now.kept c.args.run.start c.loop-start.start c.args.run.end c.args.missing c.loop-start.left so_far.0 so_far.1 so_far.2 none
