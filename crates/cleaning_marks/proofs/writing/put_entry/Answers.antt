use Rattle.std.proofs.Common.{rules}
use Rattle.cleaning_marks.proofs.Parts.{entry_put}
use Rattle.cleaning_marks.proofs.writing.put_entry.Goals as goal

pub returns : goal.returns
returns g c =
    entry_put c.put_rest.result c.args.one.now c.numbers_of-numbers.result c.args.out.now.items
    c.put_name.new.out.items c.append_fixed.new.out.items c.put_mark.new.out.items c.put_mark-2.new.out.items c.put_rest.new.out.items
    (search rules) (search rules) (search rules) (search rules) (search rules) (search rules)
