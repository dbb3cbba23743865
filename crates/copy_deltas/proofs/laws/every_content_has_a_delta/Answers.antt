use Rattle.copy_deltas.proofs.Valid.{delta_of_content}
use Rattle.copy_deltas.proofs.laws.every_content_has_a_delta.Goals as goal

pub returns : goal.returns
returns c = delta_of_content
