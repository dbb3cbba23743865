use Rattle.std.proofs.Common.{rules}
use Rattle.subcommands.proofs.replaying.run_replay.Goals as goal

pub returns-in-Err-clause-done_complains_of_nothing : goal.returns-in-Err-clause-done_complains_of_nothing
returns-in-Err-clause-done_complains_of_nothing c = search rules
