use Rattle.std.proofs.Common.{rules}
use Rattle.responses.proofs.ResponseParts.{put_around}
use Rattle.responses.proofs.parts.append_around.Goals as goal

pub returns-clause-appends : goal.returns-clause-appends
returns-clause-appends g c =
    put_around c.extend_from_slice-3.result c.args.out.now.items c.extend_from_slice.new.self.items c.extend_from_slice-2.new.self.items c.extend_from_slice-3.new.self.items c.args.before.now c.args.name.now c.args.after.now
    (search rules) (search rules) (search rules)
