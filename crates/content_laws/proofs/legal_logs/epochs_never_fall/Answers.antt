use Rattle.std.proofs.Common.{pos, [], arith}
use Rattle.content.specs.Windows.{heads}
use Rattle.content_laws.proofs.Legal.{legal_epochs, plain_rises}
use Rattle.content_laws.proofs.legal_logs.epochs_never_fall.Goals as goal

pub returns : goal.returns
returns c = λ log start plain legal. legal_epochs start (pos 0) [] (heads log) legal.0 (plain_rises 0 log plain) (λ p least i j d less within. absurd (omega arith)) legal.1
