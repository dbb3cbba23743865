use Rattle.std.proofs.Common.{◌∙◌}
use Rattle.std.specs.Int.{w32}
use Rattle.std.proofs.lemmas.Int.{to_z-of_z}
use Rattle.copy_images.proofs.write.new_image.Goals as goal

pub put_image-requires-clause-nothing : goal.put_image-requires-clause-nothing
put_image-requires-clause-nothing g c = c.in_ok-out.ensures.items

pub put_image-requires-clause-ranges : goal.put_image-requires-clause-ranges
put_image-requires-clause-ranges g c = to_z-of_z w32 c.args.range_count c.ranges.range_count ∙ c.requires.ranges

pub put_image-requires-clause-batches : goal.put_image-requires-clause-batches
put_image-requires-clause-batches g c = to_z-of_z w32 c.args.batch_count c.ranges.batch_count ∙ c.requires.batches

pub returns : goal.returns
returns g c = c.in_ok-put_image.ensures
