use Rattle.std.proofs.Common.{◌≡◌, ◌≤◌, ℕ, List, ◌++◌, length, Some}
use Rattle.group_requests.specs.OffsetFetch.Walks.{Slot, slot_at, HasNone}
use Rattle.group_requests.proofs.OffsetWalks.{Says}
use Rattle.group_requests.proofs.offset_fetch.walk.CommitWalk.run.Given as goal

abbrev pub invariant-loop-end : goal.invariant-loop-end
invariant-loop-end g l =
    (l.end ≤ length l.log.kept) ×
    (HasNone l.fn.self → (rest : List ℕ) (slot : Slot) → slot_at l.self rest ≡ Some slot → Says l.log.kept l.end (l.self.front.items ++ rest) slot)

abbrev pub decreases-loop-end : goal.decreases-loop-end
decreases-loop-end g l = l.end
