use Rattle.content_laws.proofs.LeaderVerdicts.{leader_verdict}
use Rattle.content_laws.proofs.producer_windows.a_leaders_verdict_is_its_logs.Goals as goal

pub returns : goal.returns
returns c = λ x log h content plain leads. leader_verdict x log h content plain leads
