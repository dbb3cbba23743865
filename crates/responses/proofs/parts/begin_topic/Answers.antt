use Rattle.std.proofs.Common.{rules}
use Rattle.frame_fields.specs.Fields.{encoded}
use Rattle.responses.proofs.parts.begin_topic.Goals as goal

pub returns-clause-appends : goal.returns-clause-appends
unfolding encoded
returns-clause-appends c = search rules
