use Rattle.std.proofs.Common.{rules}
use Rattle.subcommands.proofs.session.refuse_configuration.Goals as goal

pub returns-in_default : goal.returns-in_default
returns-in_default c = search rules
