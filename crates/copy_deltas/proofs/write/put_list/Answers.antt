use Rattle.std.proofs.Common.{rules}
use Rattle.std.specs.Prelude.{FitsSigned}
use Rattle.std.specs.Int.{w64}
use Rattle.copy_deltas.proofs.Entries.{list_put}
use Rattle.copy_deltas.proofs.write.put_list.Goals as goal

pub returns : goal.returns
returns g c =
    let base : FitsSigned w64 c.base.result = search rules in
    list_put c.put_offsets.result c.args.out.now.items c.push.new.self.items c.extend_from_slice.new.self.items c.extend_from_slice-2.new.self.items c.put_offsets.new.out.items c.to_be_bytes.result c.to_be_bytes-2.result
    c.args.batch.now c.base.result c.record_count.result c.in_ok-count.count base c.base.ensures c.record_count.ensures c.in_ok-count.ensures.same c.in_ok-count.ensures.fits
    c.in_ok-push.ensures.items c.to_be_bytes.ensures c.in_ok-extend_from_slice.ensures.items c.to_be_bytes-2.ensures c.in_ok-extend_from_slice-2.ensures.items c.put_offsets.ensures
