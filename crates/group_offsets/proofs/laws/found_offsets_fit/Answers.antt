use Rattle.group_offsets.proofs.ReadFits.{found_fits}
use Rattle.group_offsets.proofs.laws.found_offsets_fit.Goals as goal

pub returns : goal.returns
returns c = found_fits
