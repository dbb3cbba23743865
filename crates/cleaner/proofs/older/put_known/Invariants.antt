use Rattle.cleaner.specs.Choice.{has_key_of}
use Rattle.cleaner.proofs.OlderKeys.{PutWhere}
use Rattle.cleaner.proofs.older.put_known.Given as goal

abbrev pub invariant-loop-rec : goal.invariant-loop-rec
invariant-loop-rec g l =
    (goal.iterator-loop-rec g).can_next l.rec-iterator ×
    (goal.iterator-loop-rec g).is_finite l.rec-iterator ×
    PutWhere (has_key_of l.keys) l.fn.older l.older l.fn.batch l.rec-iterator
