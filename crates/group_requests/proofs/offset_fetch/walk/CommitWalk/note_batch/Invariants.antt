use Rattle.std.proofs.Common.{◌≡◌, ℕ, List, ◌++◌}
use Rattle.group_requests.specs.OffsetFetch.Walks.{slot_at}
use Rattle.group_requests.proofs.OffsetWalks.{SeesAll}
use Rattle.group_requests.proofs.offset_fetch.walk.CommitWalk.note_batch.Given as goal

-- what is left to see leads to what all of the batch leads to
abbrev pub invariant-loop-rec : goal.invariant-loop-rec
invariant-loop-rec g l =
    (goal.iterator-loop-rec g).can_next l.rec-iterator ×
    (goal.iterator-loop-rec g).is_finite l.rec-iterator ×
    (l.self.front.items ≡ l.fn.self.front.items) ×
    ((rest : List ℕ) → SeesAll l.index (l.fn.self.front.items ++ rest) l.rec-iterator (slot_at l.self rest)
    ≡ SeesAll l.index (l.fn.self.front.items ++ rest) l.batch.recs (slot_at l.fn.self rest))
