use Rattle.key_index.specs.Puts.{HaveOffsets}
use Rattle.newest_keys.specs.Shards.{newest_in}
use Rattle.newest_keys.proofs.Records.{Leads}
use Rattle.newest_keys.proofs.keys.NewestKeys.put_batch.Given as goal

abbrev pub invariant-loop-rec : goal.invariant-loop-rec
invariant-loop-rec g l =
    (goal.iterator-loop-rec g).can_next l.rec-iterator ×
    (goal.iterator-loop-rec g).is_finite l.rec-iterator ×
    HaveOffsets l.batch.head.base l.rec-iterator ×
    Leads l.batch.head.base (newest_in l.fn.self) (newest_in l.self) l.rec-iterator l.batch.recs
