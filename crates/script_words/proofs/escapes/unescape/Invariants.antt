use Rattle.std.proofs.Common.{ℕ, List, ◌++◌, length}
use Rattle.script_words.specs.Escapes.{Says}
use Rattle.script_words.proofs.escapes.unescape.Given as goal

-- what is left says what is missing
abbrev pub invariant-loop-rest : goal.invariant-loop-rest
invariant-loop-rest g l = (more : List ℕ) → Says l.rest more → Says l.text (l.bytes.items ++ more)

abbrev pub decreases-loop-rest : goal.decreases-loop-rest
decreases-loop-rest g l = length l.rest
