use Rattle.kept_sessions.proofs.SameAnywhere.{replayed_alike, started_alike}
use Rattle.kept_sessions.proofs.laws.frames_lead_to_the_same_contents.Goals as goal

pub returns-clause-alike : goal.returns-clause-alike
returns-clause-alike c = replayed_alike

pub returns-clause-from_a_start : goal.returns-clause-from_a_start
returns-clause-from_a_start c = started_alike
