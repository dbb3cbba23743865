use Rattle.std.proofs.Common.{◌≡◌}
use Rattle.side_by_side.specs.RecordWalks.{walk_has_all}
use Rattle.side_by_side.proofs.common.walk_has_all.Given as goal

abbrev pub invariant-loop-rec : goal.invariant-loop-rec
invariant-loop-rec l =
    (goal.iterator-loop-rec).can_next l.rec-iterator ×
    (goal.iterator-loop-rec).is_finite l.rec-iterator ×
    (walk_has_all l.rec-iterator l.walk ≡ walk_has_all l.fn.x.recs l.fn.y.recs)
