use Rattle.std.proofs.Common.{◌∙◌, rules}
use Rattle.std.specs.Prelude.{FitsSigned}
use Rattle.std.specs.Int.{w64}
use Rattle.copy_images.proofs.Written.{all_bytes, image_put}
use Rattle.copy_images.proofs.write.put_image.Goals as goal

pub returns : goal.returns
returns g c =
    let start : FitsSigned w64 c.start.result = search rules in
    image_put c.put_crc.result c.args.out.now.items c.put_head.new.out.items c.put_front.new.out.items c.put_bytes.new.out.items c.put_crc.new.out.items c.args.copy.now c.start.result c.ranges-2.result.now c.args.batch_count
    start c.ranges.batch_count c.requires.nothing c.start.ensures.start (c.ranges-2.ensures.lists_runs ∙ c.cover.ensures) c.requires.batches c.in_ok-put_head.ensures c.in_ok-put_front.ensures (all_bytes c.put_front.new.out.items c.put_bytes.new.out.items c.args.copy.now.kept c.len.result c.len.ensures c.in_ok-put_bytes.ensures.appends) c.put_crc.ensures
