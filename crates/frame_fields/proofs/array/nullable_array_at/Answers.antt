use Rattle.std.proofs.Common.{rules}
use Rattle.frame_fields.specs.Reading.{read_array_or_null}
use Rattle.frame_fields.proofs.array.nullable_array_at.Goals as goal

pub returns : goal.returns
unfolding read_array_or_null
returns c = search rules
