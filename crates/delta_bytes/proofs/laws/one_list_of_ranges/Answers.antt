use Rattle.delta_bytes.proofs.OneBody.{ranges_once}
use Rattle.delta_bytes.proofs.laws.one_list_of_ranges.Goals as goal

pub returns : goal.returns
returns c = ranges_once
