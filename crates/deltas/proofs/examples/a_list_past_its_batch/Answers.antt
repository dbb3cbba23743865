use Rattle.std.proofs.Common.{pos, [], ◌∷◌, refl, arith}
use Rattle.std.specs.Prelude.{◌≤ℤ◌}
use Rattle.std.proofs.lemmas.Int.{ints}
use Rattle.batch_codec.specs.Offsets.{last_offset}
use Rattle.cover_ranges.specs.Runs.{with_range}
use Rattle.content.specs.ByOffset.{put}
use Rattle.content.specs.Examples.{batch_0}
use Rattle.deltas.proofs.examples.a_list_past_its_batch.Goals as goal

one_is_past : pos 1 ≤ℤ last_offset batch_0 → ⊥
one_is_past le = omega (arith, ints, le)

pub returns-clause-is_at_fault : goal.returns-clause-is_at_fault
unfolding put with_range
returns-clause-is_at_fault c = λ accepts.
    let listed = accepts.1 (pos 0 ∷ pos 1 ∷ []) refl in
    one_is_past ((listed.1 (omega (arith, ints))).1 batch_0 refl).1.0

pub returns-clause-also_later : goal.returns-clause-also_later
unfolding put with_range
returns-clause-also_later c = λ accepts.
    let listed = accepts.1 (pos 0 ∷ pos 1 ∷ []) refl in
    one_is_past ((listed.1 (omega (arith, ints))).1 batch_0 refl).1.0
