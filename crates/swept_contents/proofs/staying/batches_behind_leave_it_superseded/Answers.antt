use Rattle.swept_contents.proofs.StaySuperseded.{batch_stays}
use Rattle.swept_contents.proofs.staying.batches_behind_leave_it_superseded.Goals as goal

pub returns : goal.returns
returns c = batch_stays
