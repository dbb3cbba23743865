use Rattle.std.proofs.Common.{rules}
use Rattle.responses.proofs.get.value_length.Goals as goal

pub returns-in-None : goal.returns-in-None
returns-in-None c = search rules
