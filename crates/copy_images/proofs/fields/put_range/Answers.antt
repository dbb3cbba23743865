use Rattle.std.proofs.Common.{rules}
use Rattle.std.specs.Prelude.{FitsSigned}
use Rattle.std.specs.Int.{w64}
use Rattle.copy_images.proofs.Written.{range_put}
use Rattle.copy_images.proofs.fields.put_range.Goals as goal

pub returns : goal.returns
returns g c =
    let range = c.args.range.now in
    let first : FitsSigned w64 range.0 = search rules in
    let last : FitsSigned w64 range.1 = search rules in
    range_put c.extend_from_slice-2.result c.args.out.now.items c.extend_from_slice.new.self.items c.extend_from_slice-2.new.self.items c.to_be_bytes.result c.to_be_bytes-2.result range first last c.to_be_bytes.ensures c.to_be_bytes-2.ensures c.in_ok-extend_from_slice.ensures.items c.extend_from_slice-2.ensures.items
