use Rattle.content_laws.proofs.JoinLaws.{agree_sym}
use Rattle.content_laws.proofs.joins.agreement_is_symmetric.Goals as goal

pub returns : goal.returns
returns c = agree_sym
