use Rattle.std.proofs.Common.{rules}
use Rattle.script_words.proofs.numbers.starts_with_plus.Goals as goal

pub returns-in_default-2 : goal.returns-in_default-2
returns-in_default-2 c = search rules
