use Rattle.state_snapshots.proofs.ReadHead.{head_said, head_keyed, head_ends}
use Rattle.state_snapshots.proofs.laws.the_head_of_a_snapshot.Goals as goal

pub returns-clause-says : goal.returns-clause-says
returns-clause-says c = head_said

pub returns-clause-keyed : goal.returns-clause-keyed
returns-clause-keyed c = head_keyed

pub returns-clause-ends : goal.returns-clause-ends
returns-clause-ends c = head_ends
