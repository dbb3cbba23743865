use Rattle.member_frames.proofs.Rows.{told_in_version_0, told_in_version_1}
use Rattle.member_frames.proofs.examples.a_rebalance_is_told.Goals as goal

pub returns-clause-version_0 : goal.returns-clause-version_0
returns-clause-version_0 c = told_in_version_0

pub returns-clause-version_1 : goal.returns-clause-version_1
returns-clause-version_1 c = told_in_version_1
