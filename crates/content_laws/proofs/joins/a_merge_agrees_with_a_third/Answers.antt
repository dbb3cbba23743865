use Rattle.content_laws.proofs.JoinLaws.{join_agrees, agrees_with_join}
use Rattle.content_laws.proofs.joins.a_merge_agrees_with_a_third.Goals as goal

pub returns : goal.returns
returns c = record { behind = join_agrees; before = agrees_with_join }
