use Rattle.std.proofs.Common.{rules}
use Rattle.responses.proofs.offset_fetch.partition.metadata_length.Goals as goal

pub returns-in-None : goal.returns-in-None
returns-in-None c = search rules
