use Rattle.content_laws.proofs.ByOffset.{same_lists}
use Rattle.content_laws.proofs.lists.equal_look_ups_make_equal_lists.Goals as goal

pub returns : goal.returns
returns g c = same_lists
