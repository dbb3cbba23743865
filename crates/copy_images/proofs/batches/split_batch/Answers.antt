use Rattle.std.proofs.Common.{rules, ◌+◌, ap, ◌∙◌}
use Rattle.std.specs.Prelude.{FitsSigned}
use Rattle.std.specs.Int.{w32}
use Rattle.batch_codec.specs.Reading.{batch_of}
use Rattle.batch_codec.proofs.Encoded.{batch_again}
use Rattle.copy_images.proofs.Kept.{front_long, sized, within, taken, left, encoding_is}
use Rattle.copy_images.proofs.batches.split_batch.Goals as goal

pub be_i32_at-requires : goal.be_i32_at-requires
be_i32_at-requires c = front_long c.requires.0 c.requires.1 c.args.bytes.now c.requires.2 c.requires.3

pub split_at-requires : goal.split_at-requires
split_at-requires c =
    let fits : FitsSigned w32 c.be_i32_at.result = search rules in
    let size = sized c.requires.0 c.requires.1 c.args.bytes.now c.be_i32_at.result c.unsigned_abs.result c.requires.2 c.requires.3 c.be_i32_at.ensures fits c.unsigned_abs.ensures.value in
    within c.requires.0 c.requires.1 c.args.bytes.now (c.unsigned_abs.result + 12) c.requires.3 size

pub open-requires : goal.open-requires
open-requires c =
    let fits : FitsSigned w32 c.be_i32_at.result = search rules in
    let size = sized c.requires.0 c.requires.1 c.args.bytes.now c.be_i32_at.result c.unsigned_abs.result c.requires.2 c.requires.3 c.be_i32_at.ensures fits c.unsigned_abs.ensures.value in
    encoding_is c.requires.0 c.split_at.result.0.now c.requires.2 (taken c.requires.0 c.requires.1 c.args.bytes.now c.split_at.result.0.now (c.unsigned_abs.result + 12) c.requires.3 size c.split_at.ensures.front)

pub returns : goal.returns
returns c b rest w is =
    let fits : FitsSigned w32 c.be_i32_at.result = search rules in
    let size = sized b rest c.args.bytes.now c.be_i32_at.result c.unsigned_abs.result w is c.be_i32_at.ensures fits c.unsigned_abs.ensures.value in (
      c.open.ensures ∙ ap batch_of (taken b rest c.args.bytes.now c.split_at.result.0.now (c.unsigned_abs.result + 12) is size c.split_at.ensures.front) ∙ batch_again b w,
      left b rest c.args.bytes.now c.split_at.result.1.now (c.unsigned_abs.result + 12) is size c.split_at.ensures.back,
    )
