use Rattle.content_laws.proofs.JoinLaws.{join_self}
use Rattle.content_laws.proofs.joins.merging_is_idempotent.Goals as goal

pub returns : goal.returns
returns c = join_self
