use Rattle.content_laws.proofs.CopyJoin.{copies_agree}
use Rattle.content_laws.proofs.copies.copies_of_one_log_agree.Goals as goal

pub returns : goal.returns
returns c = copies_agree
