use Rattle.swept_contents.proofs.SweptParts.{part_sweeps}
use Rattle.swept_contents.proofs.sweeping.a_part_sweeps_on.Goals as goal

pub returns : goal.returns
returns c = part_sweeps
