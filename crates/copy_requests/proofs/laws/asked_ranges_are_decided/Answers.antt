use Rattle.copy_requests.proofs.Asked.{asked_runs, runs_asked}
use Rattle.copy_requests.proofs.laws.asked_ranges_are_decided.Goals as goal

pub returns : goal.returns
returns c = λ asked. (asked_runs asked, runs_asked asked)
