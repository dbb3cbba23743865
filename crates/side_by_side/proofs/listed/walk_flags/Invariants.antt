use Rattle.std.proofs.Common.{◌≡◌, ◌++◌}
use Rattle.delta_bytes.specs.Judging.{offsets_of}
use Rattle.side_by_side.specs.ListWalks.{listed_flags}
use Rattle.side_by_side.proofs.listed.walk_flags.Given as goal

abbrev pub invariant-loop-rec : goal.invariant-loop-rec
invariant-loop-rec g l =
    (goal.iterator-loop-rec g).can_next l.rec-iterator ×
    (goal.iterator-loop-rec g).is_finite l.rec-iterator ×
    (l.keep.items ++ listed_flags l.batch l.rec-iterator (offsets_of l.left) ≡ listed_flags l.batch l.batch.recs (offsets_of l.fn.offsets))
