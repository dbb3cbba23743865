use Rattle.coordinator_laws.proofs.Admitting.{commit_admitted, commit_of}
use Rattle.coordinator_laws.proofs.standing.commits_are_admitted.Goals as goal

pub returns : goal.returns
returns c name n id v s = (commit_admitted name n id v s, commit_of name n id v s)
