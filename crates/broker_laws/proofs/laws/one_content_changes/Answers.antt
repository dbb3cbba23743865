use Rattle.std.proofs.Common.{refl}
use Rattle.broker_state.proofs.OneContent.{with_same, with_unknown, other_index, other_name}
use Rattle.broker_laws.proofs.laws.one_content_changes.Goals as goal

pub returns-clause-same : goal.returns-clause-same
returns-clause-same c = with_same

pub returns-clause-config : goal.returns-clause-config
returns-clause-config c = λ s name p content. refl

pub returns-clause-unknown : goal.returns-clause-unknown
returns-clause-unknown c = with_unknown

pub returns-clause-other_index : goal.returns-clause-other_index
returns-clause-other_index c = λ s name other p q content differs. other_index s.topics name other q p content differs

pub returns-clause-other_name : goal.returns-clause-other_name
returns-clause-other_name c = λ s name other p q content differs. other_name s.topics name other q p content differs
