use Rattle.std.proofs.Common.{rules}
use Rattle.frame_fields.specs.Fields.{encoded}
use Rattle.responses.proofs.fetch.response.fetch_head.Goals as goal

pub returns : goal.returns
unfolding encoded
returns c = search rules
