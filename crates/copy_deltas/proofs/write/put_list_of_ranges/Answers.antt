use Rattle.std.proofs.Common.{length, refl}
use Rattle.copy_images.proofs.Written.{on_ok}
use Rattle.copy_deltas.proofs.Parts.{ranges_put}
use Rattle.copy_deltas.proofs.write.put_list_of_ranges.Goals as goal

pub returns-clause-appends : goal.returns-clause-appends
returns-clause-appends g c =
    ranges_put c.put_ranges.result c.args.out.now.items c.extend_from_slice.new.self.items c.put_ranges.new.out.items c.to_be_bytes.result c.args.ranges.now (length c.args.ranges.now) c.in_ok-count.count
    c.in_ok-count.ensures.same c.in_ok-count.ensures.fits refl c.to_be_bytes.ensures c.in_ok-extend_from_slice.ensures.items c.put_ranges.ensures

pub returns-clause-counted : goal.returns-clause-counted
returns-clause-counted g c = on_ok c.put_ranges.result _ c.in_ok-count.ensures.fits
