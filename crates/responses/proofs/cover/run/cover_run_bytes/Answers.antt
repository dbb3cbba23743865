use Rattle.std.proofs.Common.{rules}
use Rattle.frame_fields.specs.Fields.{encoded}
use Rattle.responses.proofs.cover.run.cover_run_bytes.Goals as goal

pub returns : goal.returns
unfolding encoded
returns c = search rules
