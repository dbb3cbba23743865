use Rattle.broker_laws.proofs.AnyVersion.{is_request, same_list, never_bad}
use Rattle.broker_laws.proofs.laws.any_version_is_answered.Goals as goal

pub returns-clause-is_request : goal.returns-clause-is_request
returns-clause-is_request c = is_request

pub returns-clause-same_list : goal.returns-clause-same_list
returns-clause-same_list c = same_list

pub returns-clause-never_a_bad_version : goal.returns-clause-never_a_bad_version
returns-clause-never_a_bad_version c = never_bad
