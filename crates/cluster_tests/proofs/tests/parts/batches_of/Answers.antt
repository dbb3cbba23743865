use Rattle.std.proofs.Common.{◌<◌, length, arith}
use Rattle.cluster_tests.proofs.Contents.{one_more}
use Rattle.cluster_tests.proofs.tests.parts.batches_of.Goals as goal

pub loop-i-preserved : goal.loop-i-preserved
loop-i-preserved g c =
    let kept = c.args.copy.now.kept in
    let there : c.loop-i.i < length kept = omega (arith, c.len-i-end.ensures) in
    one_more kept c.loop-i.batches.items c.push.new.self.items c.at.result c.in_ok-from_view.field-0 c.loop-i.i there
    c.loop-i.invariant c.in_ok-push.ensures.items c.in_ok-from_view.ensures (c.at.ensures.is_there c.at.result)
