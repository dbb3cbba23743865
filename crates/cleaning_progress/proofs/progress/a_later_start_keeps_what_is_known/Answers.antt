use Rattle.cleaning_progress.proofs.Known.{known_when_cut}
use Rattle.cleaning_progress.proofs.progress.a_later_start_keeps_what_is_known.Goals as goal

pub returns : goal.returns
returns g k = known_when_cut k
