use Rattle.std.proofs.Common.{rules}
use Rattle.script_words.proofs.escapes.hex_value.Goals as goal

pub returns-in-None-clause-value : goal.returns-in-None-clause-value
returns-in-None-clause-value c = search rules
