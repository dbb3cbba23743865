use Rattle.std.proofs.Common.{rules}
use Rattle.snapshots.proofs.Parts.{front_put}
use Rattle.snapshots.proofs.writing.front_bytes.Goals as goal

pub returns : goal.returns
returns c = front_put c.start_bytes.result c.int64_bytes.result c.size_bytes.result c.args.key c.args.fields.now (search rules) (search rules) (search rules)
