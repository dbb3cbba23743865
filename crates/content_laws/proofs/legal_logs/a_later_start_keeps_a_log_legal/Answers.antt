use Rattle.std.proofs.Common.{pos, []}
use Rattle.content.specs.Windows.{heads}
use Rattle.content_laws.proofs.Legal.{legal_raise}
use Rattle.content_laws.proofs.legal_logs.a_later_start_keeps_a_log_legal.Goals as goal

pub returns : goal.returns
returns c = λ log start later less legal. (legal.0, legal_raise start later (pos 0) [] (heads log) legal.0 less legal.1)
