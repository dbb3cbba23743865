use Rattle.coordinator_laws.proofs.Ids.{ids_alone}
use Rattle.coordinator_laws.proofs.members.an_id_is_one_members.Goals as goal

pub returns : goal.returns
returns c = ids_alone
