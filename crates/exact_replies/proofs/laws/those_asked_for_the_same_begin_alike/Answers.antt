use Rattle.exact_replies.proofs.SameStarts.{begin_alike}
use Rattle.exact_replies.proofs.laws.those_asked_for_the_same_begin_alike.Goals as goal

pub returns : goal.returns
returns c = record { alike = begin_alike }
