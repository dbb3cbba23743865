use Rattle.std.proofs.Common.{rules}
use Rattle.frame_fields.proofs.fields.text.Goals as goal

pub returns-in_err-len : goal.returns-in_err-len
returns-in_err-len c = search rules
