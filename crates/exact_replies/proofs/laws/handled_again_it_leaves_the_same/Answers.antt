use Rattle.exact_replies.proofs.OneExactReply.{same_again}
use Rattle.exact_replies.proofs.laws.handled_again_it_leaves_the_same.Goals as goal

pub returns : goal.returns
returns c = record { same_state = same_again }
