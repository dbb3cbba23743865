use Rattle.content_laws.proofs.JoinLaws.{join_comm, join_comm_agree}
use Rattle.content_laws.proofs.joins.merging_is_commutative.Goals as goal

pub returns : goal.returns
returns c = record { alike = join_comm; agreeing = join_comm_agree }
