use Rattle.std.proofs.Common.{◌<◌, length, arith}
use Rattle.log_tests.proofs.Reading.{one_more}
use Rattle.log_tests.proofs.tests.store.read_all.Goals as goal

pub loop-i-preserved : goal.loop-i-preserved
loop-i-preserved g c =
    let there : c.loop-i.i < length (g.S.BatchStore.batches c.args.store.now) = omega (arith, c.len-i-end.ensures.length) in
    one_more (g.S.BatchStore.batches c.args.store.now) c.loop-i.list.items c.push.new.self.items c.at.result c.in_ok-from_view.field-0 c.loop-i.i there
    c.loop-i.invariant c.in_ok-push.ensures.items c.in_ok-from_view.ensures (c.at.ensures.is_there c.at.result)
