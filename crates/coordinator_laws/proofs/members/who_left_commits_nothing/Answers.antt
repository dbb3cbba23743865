use Rattle.coordinator_laws.proofs.Leaving.{gone_commits}
use Rattle.coordinator_laws.proofs.members.who_left_commits_nothing.Goals as goal

pub returns : goal.returns
returns c = gone_commits
