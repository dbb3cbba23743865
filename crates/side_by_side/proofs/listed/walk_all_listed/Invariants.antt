use Rattle.std.proofs.Common.{◌≡◌}
use Rattle.delta_bytes.specs.Judging.{offsets_of}
use Rattle.side_by_side.specs.ListWalks.{walk_all_listed}
use Rattle.side_by_side.proofs.listed.walk_all_listed.Given as goal

abbrev pub invariant-loop-rec : goal.invariant-loop-rec
invariant-loop-rec l =
    (goal.iterator-loop-rec).can_next l.rec-iterator ×
    (goal.iterator-loop-rec).is_finite l.rec-iterator ×
    (walk_all_listed l.batch l.rec-iterator (offsets_of l.left) ≡ walk_all_listed l.batch l.batch.recs (offsets_of l.fn.offsets))
