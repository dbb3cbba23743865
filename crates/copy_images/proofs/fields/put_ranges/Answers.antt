use Rattle.std.proofs.Common.{pos}
use Rattle.copy_images.specs.Images.{range_encoding}
use Rattle.copy_images.proofs.Written.{range_written, all_written}
use Rattle.copy_images.proofs.fields.put_ranges.Goals as goal

pub loop-range-preserved : goal.loop-range-preserved
loop-range-preserved g c =
    range_written c.args.out.now.items c.loop-range.out.items c.put_range.new.out.items c.loop-range.range-index c.args.ranges.now (pos 0, pos 0) c.loop-range-test.true c.loop-range.invariant c.in_ok-put_range.ensures

pub returns : goal.returns
returns g c = all_written range_encoding c.args.out.now.items c.loop-range.out.items c.loop-range.range-index c.args.ranges.now c.loop-range-test.false c.loop-range.invariant
