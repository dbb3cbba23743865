use Rattle.std.proofs.Common.{rules}
use Rattle.std.specs.Int.{w32, cast_signed}
use Rattle.frame_fields.specs.Fields.{be, size32, size64}
use Rattle.cleaning_marks.specs.Files.{as_int64}
use Rattle.cleaning_marks.proofs.Parts.{five_put}
use Rattle.cleaning_marks.proofs.writing.put_place.Goals as goal

pub returns : goal.returns
returns g c =
    let p = c.args.place.now in
    five_put c.append_fixed-5.result c.args.out.now.items (be size64 (as_int64 p.number)) (be size64 p.key) (be size64 (as_int64 p.size)) (be size64 (as_int64 p.group_at)) (be size32 (cast_signed w32 p.group_crc))
    c.append_fixed.new.out.items c.append_fixed-2.new.out.items c.append_fixed-3.new.out.items c.append_fixed-4.new.out.items c.append_fixed-5.new.out.items
    (search rules) (search rules) (search rules) (search rules) (search rules)
