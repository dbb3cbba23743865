use Rattle.std.specs.Result.{is_ok}
use Rattle.count_list.proofs.Edited.{pushed_in}
use Rattle.count_list.proofs.blocks.Blocks.push.Goals as goal

pub returns-in-Some : goal.returns-in-Some
returns-in-Some g c = pushed_in (is_ok c.push_in.result) c.args.self.now c.push_in.new.self c.in-Some.k c.args.n c.in-Some.ensures.last c.push_in.ensures
