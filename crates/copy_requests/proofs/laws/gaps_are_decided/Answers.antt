use Rattle.copy_requests.proofs.Imported.{gapless, gapless_back}
use Rattle.copy_requests.proofs.laws.gaps_are_decided.Goals as goal

pub returns : goal.returns
returns c = λ here is. (gapless_back here, gapless here is)
