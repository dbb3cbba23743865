use Rattle.std.proofs.Common.{rules}
use Rattle.frame_fields.specs.Reading.{read_field, read_number}
use Rattle.frame_fields.proofs.fields.int64.Goals as goal

pub returns-in-Some : goal.returns-in-Some
unfolding read_field read_number
returns-in-Some c = search rules
