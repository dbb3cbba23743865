use Rattle.cleaning_marks.proofs.Seen.{group_is_seen, head_is_seen}
use Rattle.cleaning_marks.proofs.laws.groups_are_seen.Goals as goal

pub returns-clause-group : goal.returns-clause-group
returns-clause-group c = group_is_seen

pub returns-clause-head : goal.returns-clause-head
returns-clause-head c = head_is_seen
