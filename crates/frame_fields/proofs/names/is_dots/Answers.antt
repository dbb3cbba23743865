use Rattle.std.proofs.Common.{rules}
use Rattle.frame_fields.proofs.names.is_dots.Goals as goal

pub returns-else-eq : goal.returns-else-eq
returns-else-eq c = search rules
