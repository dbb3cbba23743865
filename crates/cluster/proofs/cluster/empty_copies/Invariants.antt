use Rattle.std.proofs.Common.{◌≡◌, ◌≤◌}
use Rattle.std.specs.Prelude.{replicate}
use Rattle.std.specs.Vec.{vec_len, vec_capacity}
use Rattle.content.specs.Content.{empty}
use Rattle.cluster.proofs.cluster.empty_copies.Given as goal

abbrev pub invariant-loop : goal.invariant-loop
invariant-loop g l = (l.copies.items ≡ replicate l.counter empty) × (vec_len l.copies ≡ l.counter) × (l.count ≤ vec_capacity l.copies)
