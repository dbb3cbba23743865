use Rattle.content_laws.proofs.JoinLaws.{join_cut}
use Rattle.content_laws.proofs.joins.merging_commutes_with_cutting.Goals as goal

pub returns : goal.returns
returns c = join_cut
