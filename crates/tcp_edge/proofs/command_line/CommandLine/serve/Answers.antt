use Rattle.std.proofs.Common.{rules}
use Rattle.tcp_edge.proofs.command_line.CommandLine.serve.Goals as goal

pub returns-in-Ok-None-clause-other_is_not_done : goal.returns-in-Ok-None-clause-other_is_not_done
returns-in-Ok-None-clause-other_is_not_done c = search rules
