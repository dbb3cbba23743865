use Rattle.std.proofs.Common.{rules}
use Rattle.frame_fields.specs.Fields.{be, size8, size64}
use Rattle.cleaning_marks.proofs.Parts.{three_put}
use Rattle.cleaning_marks.proofs.writing.put_mark.Goals as goal

pub returns : goal.returns
returns g c =
    let one = c.args.one.now in
    three_put c.append_fixed-3.result c.args.out.now.items (be size8 one.there) (be size64 one.upto) (be size64 one.ended)
    c.append_fixed.new.out.items c.append_fixed-2.new.out.items c.append_fixed-3.new.out.items (search rules) (search rules) (search rules)
