use Rattle.broker_laws.proofs.AnsweredFrames.{answered_snoc}
use Rattle.broker_laws.proofs.laws.answered_snoc.Goals as goal

pub returns : goal.returns
returns c = answered_snoc
