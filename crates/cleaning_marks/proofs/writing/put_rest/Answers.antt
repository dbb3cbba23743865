use Rattle.std.proofs.Common.{rules}
use Rattle.frame_fields.specs.Fields.{be, size64}
use Rattle.cleaning_marks.proofs.Parts.{four_put}
use Rattle.cleaning_marks.proofs.writing.put_rest.Goals as goal

pub returns : goal.returns
returns g c =
    let n = c.args.numbers.now in
    four_put c.append_fixed-4.result c.args.out.now.items (be size64 n.used) (be size64 n.reached) (be size64 n.began) (be size64 n.size)
    c.append_fixed.new.out.items c.append_fixed-2.new.out.items c.append_fixed-3.new.out.items c.append_fixed-4.new.out.items
    (search rules) (search rules) (search rules) (search rules)
