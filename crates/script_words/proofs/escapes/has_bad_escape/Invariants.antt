use Rattle.std.proofs.Common.{◌≡◌, length}
use Rattle.script_words.specs.Escapes.{has_bad_escape}
use Rattle.script_words.proofs.escapes.has_bad_escape.Given as goal

-- what is left has one where the whole has one
abbrev pub invariant-loop-rest : goal.invariant-loop-rest
invariant-loop-rest l = has_bad_escape l.rest ≡ has_bad_escape l.text

abbrev pub decreases-loop-rest : goal.decreases-loop-rest
decreases-loop-rest l = length l.rest
