use Rattle.std.proofs.Common.{◌≡◌, pos, true, false, ◌⊎◌, inl, inr, refl, arith}
use Rattle.std.specs.Prelude.{◌<ℤ◌}
use Rattle.std.proofs.lemmas.Int.{ints}
use Rattle.cover_ranges.specs.Runs.{with_range}
use Rattle.content.specs.ByOffset.{put}
use Rattle.deltas.proofs.examples.the_newer_half.Goals as goal

never : (pos 1 <ℤ pos 0) ⊎ (false ≡ true) → ⊥
never (inl less) = omega (arith, ints, less)
never (inr same) = cc

pub returns-clause-not_for_one_that_lacks_1 : goal.returns-clause-not_for_one_that_lacks_1
unfolding put with_range
returns-clause-not_for_one_that_lacks_1 c = λ knows. never (knows (pos 1) refl)
