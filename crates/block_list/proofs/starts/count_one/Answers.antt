use Rattle.std.proofs.Common.{◌+◌, arith}
use Rattle.block_list.proofs.Running.{count_more, count_here}
use Rattle.block_list.proofs.starts.count_one.Goals as goal

pub loop-i-preserved : goal.loop-i-preserved
loop-i-preserved c = count_more (λ s. s + 1) c.args.from c.loop-i.i c.args.starts.now c.loop-i.starts c.loop-i.auto.i c.loop-i-test.true c.loop-i.invariant

pub bounds-starts-i : goal.bounds-starts-i
bounds-starts-i c = (count_here (λ s. s + 1) c.args.from c.loop-i.i c.args.starts.now c.loop-i.starts c.loop-i.auto.i c.loop-i-test.true c.loop-i.invariant).0

pub overflow_add-starts : goal.overflow_add-starts
overflow_add-starts c =
    let here = (count_here (λ s. s + 1) c.args.from c.loop-i.i c.args.starts.now c.loop-i.starts c.loop-i.auto.i c.loop-i-test.true c.loop-i.invariant).1 in
    omega (arith, here, c.requires.fits c.loop-i.i 0 c.loop-i-test.true)

pub bounds-starts-i-in-loop-i : goal.bounds-starts-i-in-loop-i
bounds-starts-i-in-loop-i c = (count_here (λ s. s + 1) c.args.from c.loop-i.i c.args.starts.now c.loop-i.starts c.loop-i.auto.i c.loop-i-test.true c.loop-i.invariant).0
