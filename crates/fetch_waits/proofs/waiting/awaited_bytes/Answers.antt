use Rattle.std.proofs.Common.{rules}
use Rattle.fetch_waits.proofs.waiting.awaited_bytes.Goals as goal

pub returns : goal.returns
returns c = search rules
