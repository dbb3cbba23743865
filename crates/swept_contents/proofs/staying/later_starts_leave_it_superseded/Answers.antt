use Rattle.swept_contents.proofs.StaySuperseded.{cut_stays}
use Rattle.swept_contents.proofs.staying.later_starts_leave_it_superseded.Goals as goal

pub returns : goal.returns
returns c = cut_stays
