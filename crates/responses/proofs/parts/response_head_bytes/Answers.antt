use Rattle.std.proofs.Common.{rules}
use Rattle.responses.specs.Responses.{response_head}
use Rattle.responses.proofs.parts.response_head_bytes.Goals as goal

pub returns : goal.returns
unfolding response_head
returns c = search rules
