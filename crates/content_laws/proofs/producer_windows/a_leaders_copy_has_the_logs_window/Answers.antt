use Rattle.content_laws.proofs.LeaderCopies.{leader_window}
use Rattle.content_laws.proofs.producer_windows.a_leaders_copy_has_the_logs_window.Goals as goal

pub returns : goal.returns
returns c = λ x log p content plain leads least. leader_window x log content plain leads p least
