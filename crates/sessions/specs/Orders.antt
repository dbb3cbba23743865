-- Many clients at once: what happens to a broker and to all sessions, and that it is one list of requests, answered one
-- after the other. Kafka's documentation, "Protocol Guide", section "Network", orders the requests of one connection; that
-- those of all connections have one order is this project's own.
use Rattle.std.specs.Prelude.{◌≡◌, ◌≢◌, ℕ, ◌+◌, ◌≤◌, Bool, true, false, not, if◌then◌else◌, nat_eq, List, [], ◌∷◌, ◌++◌, length, map, Option, Some, None, is_some, IfSome, Result}
use Rattle.std.specs.List.{flat_map, filter}
use Rattle.std.specs.Map.{lookup}
use Rattle.std.specs.Option.{option_map, unwrap_or}
use Rattle.frame_fields.specs.Frames.{IsFrames}
use Rattle.broker_state.specs.State.{State}
use Rattle.sessions.specs.Turns.{Exchange, IsWaiting, SessionState, WaitsFirst, new_session, frames_of, replied, InTurn}
use Rattle.sessions.specs.declared.visiting.Visit.{Visit}
use Rattle.sessions.specs.declared.visiting.Flushed.{Flushed}
use Rattle.sessions.specs.declared.visiting.Seat.{Seat}
use Rattle.sessions.specs.declared.visiting.Why.{Why}
use Rattle.sessions.specs.Visits.{Moved, Moves, SendsTo, IsMade}

-- A broker and the sessions of its clients, each by its number; `next` is the number of the next one.
pub record World : Type 0 where
  pub state : State
  pub sessions : List (ℕ × SessionState)
  pub next : ℕ

-- the session with a number, if it is open
abbrev pub session_at : World → ℕ → Option SessionState
session_at w k = lookup (nat_eq k) w.sessions

-- a broker without a client
abbrev pub new_world : State → World
new_world s = record { state = s; sessions = []; next = 0 }

-- every other session is as it was
abbrev pub OthersStay : ℕ → World → World → Type 0
OthersStay who old new = (k : ℕ) → k ≢ who → session_at new k ≡ session_at old k

-- ---- events

-- what may happen
pub data Event : Type 0 where
  -- a session with this number is opened
  Opens : ℕ → Event
  -- the session with this number is visited, or sent some of what it is owed
  Visits : ℕ → Moved → Event
  -- the session with this number is closed, with what it held and owed
  Closes : ℕ → Event

-- the broker and all sessions but one stay as they were
abbrev pub OnlyChanges : ℕ → World → World → Type 0
OnlyChanges who old new = (new.state ≡ old.state) × OthersStay who old new

-- A session is opened with the next number.
pub record IsOpened (who : ℕ) (old new : World) : Type 0 where
  pub number : who ≡ old.next
  pub next : new.next ≡ old.next + 1
  pub only : OnlyChanges who old new
  pub is_new : session_at new who ≡ Some new_session

-- One session is visited, and the broker goes from its state to another.
pub record IsVisited (who : ℕ) (moved : Moved) (old new : World) : Type 0 where
  pub before : SessionState
  pub after : SessionState
  pub was : session_at old who ≡ Some before
  pub is : session_at new who ≡ Some after
  pub moves : Moves old.state before moved new.state after
  pub others : OthersStay who old new
  pub next : new.next ≡ old.next

-- One session is closed.
pub record IsClosed (who : ℕ) (old new : World) : Type 0 where
  pub before : SessionState
  pub was : session_at old who ≡ Some before
  pub is : session_at new who ≡ None
  pub only : OnlyChanges who old new
  pub next : new.next ≡ old.next

-- what an event does
abbrev pub Step : World → Event → World → Type 0
Step old (Opens who) new = IsOpened who old new
Step old (Visits who moved) new = IsVisited who moved old new
Step old (Closes who) new = IsClosed who old new

-- events one after the other
abbrev pub Run : World → List Event → World → Type 0
Run w [] new = new ≡ w
Run w (event ∷ events) new = (mid : World) × Step w event mid × Run mid events new

-- Whatever a broker and its clients became this by, since it had none, by one event more they became that.
abbrev pub GoesOnBy : Event → (old new : World) → Type 0
GoesOnBy event old new =
    (first : State) (events : List Event) → Run (new_world first) events old → Run (new_world first) (events ++ event ∷ []) new

-- the session with a number was visited, over this connection, at this clock value; nothing was sent
pub record VisitsAt (who clock : ℕ) (seat : Seat) (old : World) (seat' : Seat) (new : World) (left left' : Option (List ℕ)) (visit : Visit) : Type 0 where
  pub moved : Moved
  pub visited : IsVisited who moved old new
  pub goes_on : GoesOnBy (Visits who moved) old new
  pub made : IsMade clock old.state seat seat' visited.before moved new.state visited.after left left' visit

-- what is sent, and nothing else, is moved
abbrev pub moves_out : (sent : List ℕ) → Moved
moves_out sent = record { came = []; exchanges = []; sent = sent }

-- the session with a number was sent a front of what it was owed: a visit that moved that alone
pub record SendsAt (who : ℕ) (seat : Seat) (old : World) (seat' : Seat) (new : World) (taken taken' : Option (List ℕ)) (result : Result Flushed Why) : Type 0 where
  pub before : SessionState
  pub after : SessionState
  pub sends : SendsTo seat before seat' after taken taken' result
  pub was : session_at old who ≡ Some before
  pub is : session_at new who ≡ Some after
  pub only : OnlyChanges who old new
  pub next : new.next ≡ old.next
  pub goes_on : GoesOnBy (Visits who (moves_out sends.sent)) old new

-- ---- one order

abbrev pub came_in : ℕ → Event → List ℕ
came_in k (Opens who) = []
came_in k (Visits who moved) = if nat_eq k who then moved.came else []
came_in k (Closes who) = []

-- all bytes that came of one client, and were taken in
abbrev pub came_of : ℕ → List Event → List ℕ
came_of k events = flat_map (came_in k) events

abbrev pub sent_in : ℕ → Event → List ℕ
sent_in k (Opens who) = []
sent_in k (Visits who moved) = if nat_eq k who then moved.sent else []
sent_in k (Closes who) = []

-- all bytes that one client was sent
abbrev pub sent_to : ℕ → List Event → List ℕ
sent_to k events = flat_map (sent_in k) events

abbrev pub answered_in : Event → List (ℕ × Exchange)
answered_in (Opens who) = []
answered_in (Visits who moved) = map (λ e. (who, e)) moved.exchanges
answered_in (Closes who) = []

-- all frames that were answered, in the order in which they were, each with the number of its session
abbrev pub one_list : List Event → List (ℕ × Exchange)
one_list events = flat_map answered_in events

-- those of one session
abbrev pub own : ℕ → List (ℕ × Exchange) → List Exchange
own k list = map (λ x. x.1) (filter (λ x. nat_eq k x.0) list)

-- What came of a client, and was taken in, is its own frames and what is held; what it was sent, with what is owed, is the
-- replies to them.
-- Where its session is open, it holds and owes just that.
pub record IsOwnPart (came sent : List ℕ) (es : List Exchange) (now : Option SessionState) : Type 0 where
  pub held : List ℕ
  pub owed : List ℕ
  pub cut : IsFrames came (frames_of es) held
  pub sent_is : sent ++ owed ≡ replied es
  pub is_now : IfSome now (λ st. (st.held ≡ held) × (st.owed ≡ owed) × (st.answered ≡ length es))

-- All frames that were answered, of whatever session, were answered one after the other from the first state to the one
-- that is now; each client has its own part of that list, and one that has no session yet has none.
pub record IsOneOrder (s : State) (events : List Event) (now : World) : Type 0 where
  pub in_turn : InTurn s (map (λ x. x.1) (one_list events)) now.state
  pub each : (k : ℕ) → IsOwnPart (came_of k events) (sent_to k events) (own k (one_list events)) (session_at now k)
  pub unopened : (k : ℕ) → now.next ≤ k → (session_at now k ≡ None) × (own k (one_list events) ≡ [])

-- whatever a broker and its clients became this by, since it had none, is one order
abbrev pub IsInOrder : (now : World) → Type 0
IsInOrder now = (first : State) (events : List Event) → Run (new_world first) events now → IsOneOrder first events now

-- ---- who sleeps

-- A broker and the sessions of its clients; the numbers of those whose first frame was found to be a Fetch that waits, each with
-- whether it was named since.
pub record SessionsState : Type 0 where
  pub world : World
  pub waits : List (ℕ × Bool)

-- the first frame of a session was found to be a Fetch that waits
abbrev pub is_waiting : SessionsState → ℕ → Bool
is_waiting b k = is_some (lookup (nat_eq k) b.waits)

-- a session sleeps: it waits, and wasn't named
abbrev pub is_asleep : SessionsState → ℕ → Bool
is_asleep b k = unwrap_or (option_map not (lookup (nat_eq k) b.waits)) false

-- each other session sleeps as it did
abbrev pub OthersSleepOn : ℕ → SessionsState → SessionsState → Type 0
OthersSleepOn who old new = (k : ℕ) → k ≢ who → is_asleep new k ≡ is_asleep old k

-- whoever sleeps could not be answered yet
abbrev pub NobodyIsDue : (clock : ℕ) → SessionsState → Type 0
NobodyIsDue clock b = (k : ℕ) → is_asleep b k ≡ true
    → (session : SessionState) × (session_at b.world k ≡ Some session) × IsWaiting clock b.world.state session

-- a session that is owed nothing, and whose first frame is a Fetch that waits, sleeps
abbrev pub SleepsWhereItWaits : ℕ → SessionsState → Type 0
SleepsWhereItWaits who b = (session : SessionState) (most : ℕ) → session_at b.world who ≡ Some session
    → WaitsFirst b.world.state session.held most → session.owed ≡ [] → is_asleep b who ≡ true
