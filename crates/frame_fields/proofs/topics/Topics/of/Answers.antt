use Rattle.std.proofs.Common.{rules}
use Rattle.frame_fields.proofs.topics.Topics.of.Goals as goal

pub returns : goal.returns
returns c = search rules
