use Rattle.std.proofs.Common.{◌≤◌, length, ap, subst, ◌∙◌}
use Rattle.copy_images.specs.declared.layout.TheConstants.{MAX_COUNT}
use Rattle.copy_images.proofs.Written.{count_passed, on_ok}
use Rattle.copy_images.proofs.write.write_image.Goals as goal

pub new_image-requires-clause-ranges : goal.new_image-requires-clause-ranges
new_image-requires-clause-ranges g c =
    count_passed c.in_ok-range_count.range_count _ _ c.in_ok-range_count.ensures.same c.in_ok-range_count.ensures.fits (ap length (c.ranges-2.ensures.lists_runs ∙ c.cover.ensures))

pub new_image-requires-clause-batches : goal.new_image-requires-clause-batches
new_image-requires-clause-batches g c = count_passed c.in_ok-batch_count.batch_count _ _ c.in_ok-batch_count.ensures.same c.in_ok-batch_count.ensures.fits c.len.ensures

pub returns-clause-gives_the_image : goal.returns-clause-gives_the_image
returns-clause-gives_the_image g c = c.new_image.ensures

pub returns-clause-counts_the_ranges : goal.returns-clause-counts_the_ranges
returns-clause-counts_the_ranges g c = on_ok c.new_image.result _ (subst (λ n. n ≤ MAX_COUNT) (ap length (c.ranges-2.ensures.lists_runs ∙ c.cover.ensures)) c.in_ok-range_count.ensures.fits)

pub returns-clause-counts_the_batches : goal.returns-clause-counts_the_batches
returns-clause-counts_the_batches g c = on_ok c.new_image.result _ (subst (λ n. n ≤ MAX_COUNT) c.len.ensures c.in_ok-batch_count.ensures.fits)
