use Rattle.std.proofs.Common.{pos, [], ◌∷◌, refl, arith}
use Rattle.std.specs.Prelude.{◌<ℤ◌}
use Rattle.std.proofs.lemmas.Int.{ints}
use Rattle.cover_ranges.specs.Runs.{with_range}
use Rattle.content.specs.ByOffset.{put}
use Rattle.deltas.proofs.examples.starts.Goals as goal

not_below : pos 1 <ℤ pos 1 → ⊥
not_below less = omega (arith, ints, less)

pub returns-clause-a_list_across_the_start_is_at_fault : goal.returns-clause-a_list_across_the_start_is_at_fault
unfolding put with_range
returns-clause-a_list_across_the_start_is_at_fault c = λ accepts.
    let listed = accepts.1 (pos 0 ∷ pos 1 ∷ []) refl in
    not_below (listed.0 (omega (arith, ints))).1.0
