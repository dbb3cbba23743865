use Rattle.deltas.proofs.Validity.{delta_is}
use Rattle.deltas.proofs.contents.the_delta_of_a_content_is_valid.Goals as goal

pub returns : goal.returns
returns c = delta_is
