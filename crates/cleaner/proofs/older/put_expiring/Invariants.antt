use Rattle.cleaner.specs.Later.{outdated_of}
use Rattle.cleaner.specs.Older.{may_expire}
use Rattle.cleaner.proofs.OlderKeys.{PutWhere}
use Rattle.cleaner.proofs.older.put_expiring.Given as goal

abbrev pub invariant-loop-rec : goal.invariant-loop-rec
invariant-loop-rec g l =
    (goal.iterator-loop-rec g).can_next l.rec-iterator ×
    (goal.iterator-loop-rec g).is_finite l.rec-iterator ×
    PutWhere (may_expire (outdated_of l.later) l.bound) l.fn.expiring l.expiring l.fn.batch l.rec-iterator
