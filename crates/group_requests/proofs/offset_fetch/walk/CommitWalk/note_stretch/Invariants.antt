use Rattle.std.proofs.Common.{◌≡◌, ℕ, List, ◌++◌, take, drop}
use Rattle.std.specs.List.{flat_map}
use Rattle.batch_codec.specs.Values.{BatchValue}
use Rattle.group_requests.specs.OffsetFetch.Walks.{slot_at}
use Rattle.group_requests.proofs.OffsetWalks.{SeesAll}
use Rattle.group_requests.proofs.offset_fetch.walk.CommitWalk.note_stretch.Given as goal

-- the batches that were passed were seen
abbrev pub invariant-loop-passed : goal.invariant-loop-passed
invariant-loop-passed g l =
    (l.walk ≡ drop l._passed (drop l.start l.log.kept)) ×
    (l.self.front.items ≡ l.fn.self.front.items) ×
    ((rest : List ℕ) → slot_at l.self rest
    ≡ SeesAll l.start (l.fn.self.front.items ++ rest) (flat_map (λ (b : BatchValue). b.recs) (take l._passed (drop l.start l.log.kept))) (slot_at l.fn.self rest))
