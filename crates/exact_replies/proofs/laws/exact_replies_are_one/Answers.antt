use Rattle.exact_replies.proofs.OneExactReply.{same_reply}
use Rattle.exact_replies.proofs.laws.exact_replies_are_one.Goals as goal

pub returns : goal.returns
returns c = record { one_reply = same_reply }
