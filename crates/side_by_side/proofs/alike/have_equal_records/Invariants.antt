use Rattle.std.specs.Prelude.{◌↔◌}
use Rattle.side_by_side.specs.RecordWalks.{WalkAlike}
use Rattle.side_by_side.proofs.alike.have_equal_records.Given as goal

abbrev pub invariant-loop-rec : goal.invariant-loop-rec
invariant-loop-rec l =
    (goal.iterator-loop-rec).can_next l.rec-iterator ×
    (goal.iterator-loop-rec).is_finite l.rec-iterator ×
    (WalkAlike l.rec-iterator l.walk ↔ WalkAlike l.fn.x.recs l.fn.y.recs)
