use Rattle.std.proofs.Common.{◌≡◌}
use Rattle.std.specs.Prelude.{◌↔◌}
use Rattle.side_by_side.proofs.alike.have_equal_headers.Given as goal

abbrev pub invariant-loop-header : goal.invariant-loop-header
invariant-loop-header l =
    (goal.iterator-loop-header).can_next l.header-iterator ×
    (goal.iterator-loop-header).is_finite l.header-iterator ×
    ((l.header-iterator ≡ l.right) ↔ (l.fn.left ≡ l.fn.right))
