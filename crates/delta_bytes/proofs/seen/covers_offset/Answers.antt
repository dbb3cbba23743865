use Rattle.copy_images.specs.Judging.{ranges_of}
use Rattle.delta_bytes.proofs.Covered.{covers_says}
use Rattle.delta_bytes.proofs.seen.covers_offset.Goals as goal

pub returns : goal.returns
returns c = covers_says c.args.offset (ranges_of c.args.ranges.now) (ranges_of c.ending_from.result.now) c.first_holds.result c.requires c.ranges.offset c.ending_from.ensures c.first_holds.ensures
