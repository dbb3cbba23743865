use Rattle.script_words.proofs.Numerals.{no_text}
use Rattle.script_words.proofs.numbers.parse_number.Goals as goal

pub returns-in-Err : goal.returns-in-Err
returns-in-Err c = λ n fits is. no_text c.args.word.now n c.in-Err.ensures.cases.0 is
