-- What is known of a broker's sessions and of who waits. Words of private clauses.
use Rattle.std.specs.Prelude.{◌≡◌, ℕ, ◌≤◌, Some, None}
use Rattle.request_frames.specs.Fetch.{FetchValue}
use Rattle.broker_state.specs.State.{content_at}
use Rattle.sessions.specs.Turns.{SessionState}
use Rattle.sessions.specs.Orders.{World, session_at}
use Rattle.sessions.specs.Waiting.{WaitState, WaitingState, asleep_at, wait_at}
use Rattle.sessions.specs.Asleep.{AllWaitOn, AsksFirst}

-- All who sleep wait on; each is the session of a client, and holds the Fetch for which it sleeps. A number that wasn't given yet
-- waits for nothing.
pub record IsWatched (world : World) (w : WaitingState) : Type 0 where
  pub asked : ℕ → FetchValue
  pub wait_on : AllWaitOn world.state (content_at world.state) w asked
  pub each : (k : ℕ) (wait : WaitState) → asleep_at w.waits k ≡ Some wait
      → (session : SessionState) × (session_at world k ≡ Some session) × AsksFirst session.held (asked k) × (session.due ≡ Some wait.due.0)
  pub fresh : (k : ℕ) → world.next ≤ k → (session_at world k ≡ None) × (wait_at w.waits k ≡ None)
