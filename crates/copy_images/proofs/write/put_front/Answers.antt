use Rattle.copy_images.proofs.Written.{front_put}
use Rattle.copy_images.proofs.write.put_front.Goals as goal

pub returns : goal.returns
returns g c =
    front_put c.extend_from_slice-2.result c.args.out.now.items c.extend_from_slice.new.self.items c.put_ranges.new.out.items c.extend_from_slice-2.new.self.items c.to_be_bytes.result c.to_be_bytes-2.result c.args.ranges.now c.args.range_count c.args.batch_count
    c.ranges.range_count c.ranges.batch_count c.requires c.to_be_bytes.ensures c.in_ok-extend_from_slice.ensures.items c.in_ok-put_ranges.ensures c.to_be_bytes-2.ensures c.extend_from_slice-2.ensures.items
