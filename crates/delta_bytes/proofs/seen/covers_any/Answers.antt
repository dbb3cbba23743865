use Rattle.copy_images.specs.Judging.{ranges_of}
use Rattle.delta_bytes.proofs.Covered.{any_says}
use Rattle.delta_bytes.proofs.seen.covers_any.Goals as goal

pub returns : goal.returns
returns c =
    any_says c.args.first c.args.last (ranges_of c.args.ranges.now) (ranges_of c.ending_from.result.now) c.first_starts_by.result c.requires.canonical c.requires.some c.ranges.first c.ranges.last c.ending_from.ensures c.first_starts_by.ensures
