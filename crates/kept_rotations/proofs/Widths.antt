-- When no snapshot is due for the room that files take.
use Rattle.std.proofs.Common.{◌≡◌, ℕ, ◌+◌, ◌*◌, ◌≤◌, nat_lt, ◌&&◌, false, Some, arith}
use Rattle.journal.specs.declared.layout.TheConstants.{HEAD_SIZE}
use Rattle.kept_rotations.specs.Due.{is_wide}

pub not_wide : (most last journals now : ℕ) → last ≤ now → journals ≤ now + 2 * HEAD_SIZE → is_wide most last journals (Some now) ≡ false
not_wide most last journals now small few =
    let not : nat_lt (2 * (now + HEAD_SIZE)) (last + journals) ≡ false = grind (arith, small, few) in
    grind (arith, not)
