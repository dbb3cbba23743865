use Rattle.std.proofs.Common.{◌≡◌, ◌++◌}
use Rattle.side_by_side.specs.RecordWalks.{walk_flags}
use Rattle.side_by_side.proofs.common.walk_flags.Given as goal

abbrev pub invariant-loop-rec : goal.invariant-loop-rec
invariant-loop-rec g l =
    (goal.iterator-loop-rec g).can_next l.rec-iterator ×
    (goal.iterator-loop-rec g).is_finite l.rec-iterator ×
    (l.keep.items ++ walk_flags l.rec-iterator l.walk ≡ walk_flags l.fn.x.recs l.fn.y.recs)
