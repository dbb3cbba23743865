use Rattle.swept_contents.proofs.StaySuperseded.{part_stays}
use Rattle.swept_contents.proofs.staying.parts_leave_it_superseded.Goals as goal

pub returns : goal.returns
returns c = part_stays
