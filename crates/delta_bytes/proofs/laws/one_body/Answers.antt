use Rattle.delta_bytes.proofs.OneBody.{body_once}
use Rattle.delta_bytes.proofs.laws.one_body.Goals as goal

pub returns : goal.returns
returns c = body_once
