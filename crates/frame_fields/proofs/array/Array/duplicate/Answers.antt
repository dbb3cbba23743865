use Rattle.std.proofs.Common.{rules}
use Rattle.frame_fields.proofs.array.Array.duplicate.Goals as goal

pub returns : goal.returns
returns c = search rules
