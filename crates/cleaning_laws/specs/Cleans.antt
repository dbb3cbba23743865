-- Requests of which the Cleans are left out, and the replies that are compared then.
use Rattle.std.specs.Prelude.{◌≡◌, ℕ, Bool, true, false, not, ⊤, List, [], ◌∷◌, Option, if◌then◌else◌}
use Rattle.std.specs.List.{filter, AllByRecursion}
use Rattle.request_frames.specs.Requests.BodyValue.{clean, clean_part}
use Rattle.request_frames.specs.Requests.{BodyValue, RequestValue}
use Rattle.answering.specs.Lists.{map_accum}
use Rattle.broker_state.specs.State.{State}
use Rattle.broker_node.specs.Replies.{reply}
use Rattle.cleaning_laws.specs.Logs.{Logs}
use Rattle.cleaning_laws.specs.Alike.{StayAlike}
use Rattle.cleaning_laws.specs.Settled.{IsWithin, MayTrim, is_settled}

-- ---- lists of requests

-- a Clean, in either version
abbrev pub is_clean : BodyValue → Bool
is_clean (clean q) = true
is_clean (clean_part q) = true
is_clean _ = false

abbrev pub is_no_clean : RequestValue → Bool
is_no_clean q = not (is_clean q.body)

abbrev pub without_cleans : List RequestValue → List RequestValue
without_cleans qs = filter is_no_clean qs

-- of the results, one for each x, those whose x passes the test
abbrev pub results_where : {X Y : Type 0} → (X → Bool) → List X → List Y → List Y
results_where test (x ∷ xs) (y ∷ ys) = if test x then y ∷ results_where test xs ys else results_where test xs ys
results_where test [] ys = []
results_where test (x ∷ xs) [] = []

-- of the replies to these requests, those that are settled
abbrev pub compared_replies : List RequestValue → List (Option (List ℕ)) → List (Option (List ℕ))
compared_replies qs outs = results_where (λ q. is_settled q.body) qs outs

-- requests within the logs, to a broker that was in this state at first
abbrev pub AreWithin : State → Logs → List RequestValue → Type 0
AreWithin s logs qs = AllByRecursion (λ q. IsWithin s logs q.body) qs

-- ---- replies to a list of requests, each in the state that the one before it leaves

abbrev pub replies_to : State → List RequestValue → List (Option (List ℕ))
replies_to s qs = (map_accum reply s qs).0

abbrev pub state_after : State → List RequestValue → State
state_after s qs = (map_accum reply s qs).1

-- each Trim is to where the copy may start, as the requests before it leave the broker
abbrev pub MayTrimAll : State → List RequestValue → Type 0
MayTrimAll s [] = ⊤
MayTrimAll s (q ∷ qs) = MayTrim s q.body × MayTrimAll (reply s q).1 qs

-- two brokers answer two lists of requests alike
pub record AnswerAllAlike (logs : Logs) (s z : State) (qs ps : List RequestValue) : Type 0 where
  pub states : StayAlike logs (state_after s qs) (state_after z ps)
  pub replies : compared_replies qs (replies_to s qs) ≡ compared_replies ps (replies_to z ps)
