use Rattle.std.proofs.Common.{◌≡◌, ℕ, Some, length, IfSome}
use Rattle.request_frames.specs.Fetch.{FetchValue}
use Rattle.broker_state.specs.State.{State}
use Rattle.fetch_waits.specs.Sleeping.{Contents}
use Rattle.sessions.specs.Waiting.{asleep_at, wait_at}
use Rattle.sessions.specs.Asleep.{AllWaitOn}
use Rattle.sessions.proofs.waiting.Waiting.next_woken.Given as goal

-- all wait who did, who sleeps slept, and all who sleep wait on
abbrev pub invariant-loop-number : goal.invariant-loop-number
invariant-loop-number g l =
    ((k : ℕ) → wait_at l.self.waits k ≡ wait_at l.initial.self.waits k)
    × ((k : ℕ) → IfSome (asleep_at l.self.waits k) (λ wait. asleep_at l.initial.self.waits k ≡ Some wait))
    × ((s : State) (now : Contents) (asked : ℕ → FetchValue) → AllWaitOn s now l.initial.self asked → AllWaitOn s now l.self asked)

abbrev pub decreases-loop-number : goal.decreases-loop-number
decreases-loop-number g l = length l.self.times
