use Rattle.std.proofs.Common.{rules}
use Rattle.subcommands.proofs.status.session_status.Goals as goal

pub returns-in-OutOfMemory : goal.returns-in-OutOfMemory
returns-in-OutOfMemory c = search rules
