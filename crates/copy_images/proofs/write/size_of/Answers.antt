use Rattle.std.proofs.Common.{length, ap, ◌∙◌, arith}
use Rattle.copy_images.proofs.Sizes.{size_begins, size_more, size_whole}
use Rattle.copy_images.proofs.write.size_of.Goals as goal

pub loop-start-init : goal.loop-start-init
loop-start-init g c = size_begins c.args.copy.now c.fixed_size-size.result (length c.ranges-2.result.now) (ap length (c.ranges-2.ensures.lists_runs ∙ c.cover.ensures)) c.fixed_size-size.ensures

pub loop-start-preserved : goal.loop-start-preserved
loop-start-preserved g c =
    size_more c.loop-start.size c.saturating_add-size.result _ c.args.copy.now.kept c.loop-start.start c.piece-end.result.1 c.piece-end.result.0.now c.piece-end.ensures.goes_on c.piece-end.ensures.bytes c.saturating_add-size.ensures c.loop-start.invariant

pub returns : goal.returns
returns g c = size_whole c.args.copy.now c.loop-start.size c.loop-start.start (omega (arith, c.loop-start-test.false, c.len.ensures)) c.loop-start.invariant
