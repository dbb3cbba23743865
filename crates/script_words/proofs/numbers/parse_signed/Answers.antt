use Rattle.std.proofs.Common.{rules}
use Rattle.script_words.proofs.Numerals.{number_of}
use Rattle.script_words.proofs.Numerals.{no_number}
use Rattle.script_words.proofs.numbers.parse_signed.Goals as goal

pub returns-in-Some : goal.returns-in-Some
returns-in-Some c = search (rules, number_of, no_number)
