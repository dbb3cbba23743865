use Rattle.std.proofs.Common.{arith}
use Rattle.std.proofs.lemmas.Grind.{common_steps}
use Rattle.block_list.proofs.items.Items.take_first.Goals as goal

pub returns : goal.returns
returns c c' = grind (arith, common_steps)
