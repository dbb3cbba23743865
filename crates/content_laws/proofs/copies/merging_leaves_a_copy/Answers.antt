use Rattle.content_laws.proofs.CopyJoin.{copy_of_join}
use Rattle.content_laws.proofs.copies.merging_leaves_a_copy.Goals as goal

pub returns : goal.returns
returns c = copy_of_join
