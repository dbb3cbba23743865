use Rattle.exact_replies.proofs.SameChanges.{changed_alike}
use Rattle.exact_replies.proofs.laws.those_that_hold_the_same_change_alike.Goals as goal

pub returns : goal.returns
returns c = record { alike = changed_alike }
