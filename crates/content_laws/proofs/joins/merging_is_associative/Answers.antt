use Rattle.content_laws.proofs.JoinLaws.{join_assoc}
use Rattle.content_laws.proofs.joins.merging_is_associative.Goals as goal

pub returns : goal.returns
returns c = join_assoc
