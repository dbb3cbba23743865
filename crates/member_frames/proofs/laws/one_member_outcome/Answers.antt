use Rattle.member_frames.proofs.OneMember as law
use Rattle.member_frames.proofs.laws.one_member_outcome.Goals as goal

pub returns-clause-one_request : goal.returns-clause-one_request
returns-clause-one_request c = law.one_request

pub returns-clause-never_both : goal.returns-clause-never_both
returns-clause-never_both c = law.never_both
