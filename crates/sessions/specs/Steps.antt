-- A visit step by step. Words of private clauses.
use Rattle.std.specs.Option.{unwrap_or}
use Rattle.std.specs.Prelude.{◌≡◌, ◌⊎◌, ℕ, ◌+◌, ◌<◌, ◌≤◌, nat_lt, nat_le, nat_eq, ⊤, Bool, ◌&&◌, ◌||◌, true, false, List, [], ◌∷◌, ◌++◌, length, Option, Some, None}
use Rattle.std.specs.Io.KnownBytes.{Consumes, Keeps, Appends, IsAtEnd}
use Rattle.std_io.specs.declared.io.kind.ErrorKind.{ErrorKind}
use Rattle.std_io.specs.declared.io.kind.ErrorKind.TheVariants as kind
use Rattle.frame_fields.specs.Frames.{IsFrames, IsIncomplete}
use Rattle.request_frames.specs.Fetch.{FetchValue}
use Rattle.request_frames.specs.Requests.{BodyValue, RequestValue, IsRequest, IsRefused}
use Rattle.request_frames.specs.Requests.BodyValue.{fetch}
use Rattle.fetch_waits.specs.Waiting.{fetch_waits, body_waits, wait_of}
use Rattle.broker_state.specs.declared.place.Place.{Place}
use Rattle.broker_state.specs.State.{State}
use Rattle.broker_node.specs.Effects.{is_dear}
use Rattle.broker_node.specs.Streams.{IsAnswered}
use Rattle.sessions.specs.declared.replying.Came.{Came}
use Rattle.sessions.specs.declared.replying.Came.TheVariants as came
use Rattle.sessions.specs.declared.replying.Handled.{Handled}
use Rattle.sessions.specs.declared.replying.Handled.TheVariants as handled
use Rattle.sessions.specs.declared.replying.NextError.{NextError}
use Rattle.sessions.specs.declared.replying.NextError.TheVariants as next
use Rattle.sessions.specs.declared.session.ReceiveError.{ReceiveError}
use Rattle.sessions.specs.declared.session.ReceiveError.TheVariants as receive
use Rattle.sessions.specs.declared.session.Stop.{Stop}
use Rattle.sessions.specs.declared.session.Stop.TheVariants.{Short, Full, Dear, Waits as Waiting, Over as Stopped}
use Rattle.sessions.specs.declared.visiting.TheConstants.{MOST_OWED, READ_PIECE}
use Rattle.sessions.specs.declared.visiting.Seat.{Seat}
use Rattle.sessions.specs.declared.visiting.Failure.{Failure}
use Rattle.sessions.specs.declared.visiting.Failure.TheVariants as failure
use Rattle.sessions.specs.declared.visiting.Then.{Then}
use Rattle.sessions.specs.declared.visiting.Then.TheVariants.{Over}
use Rattle.sessions.specs.declared.visiting.Visit.{Visit}
use Rattle.sessions.specs.declared.visiting.Why.{Why}
use Rattle.sessions.specs.declared.visiting.Why.TheVariants.{Read, Write, OutOfMemory}
use Rattle.sessions.specs.Turns.{Exchange, SessionState, AnswersFirst, HasFirst, IsDear, OnlyLastIsDear, StopsBehindDear, StopsNext, IsOwedBelow, IsWaiting, WaitsFirst, InTurn, InTime, Times, frames_of, is_over, next_place, replied}
use Rattle.sessions.specs.Visits.{Moved, Moves, WantsMore, IsFault, IsMade}

-- ---- one frame

-- what holds where a frame was answered, which is dear or isn't, and where it waits for so long
abbrev pub MatchHandled : Handled → (Bool → Type 0) → (ℕ → Type 0) → Type 0
MatchHandled (handled.Answered dear) A W = A dear
MatchHandled (handled.Waits most) A W = W most

-- the same of the first frame that is held, and what holds where none is complete
abbrev pub MatchCame : Came → (Bool → Type 0) → Type 0 → (ℕ → Type 0) → Type 0
MatchCame (came.Answered dear) A S W = A dear
MatchCame came.Short A S W = S
MatchCame (came.Waits most) A S W = W most

-- the first frame is answered, and it is known whether it is dear
pub record AnswersDear (dear may_wait : Bool) (s after : State) (held rest out out' : List ℕ) : Type 0 where
  pub answer : AnswersFirst may_wait s after held rest out out'
  pub dear_is : is_dear answer.answers.request.body ≡ dear

-- A frame is answered, which is dear or isn't, and its reply stands behind what was written. Where it may wait it isn't a
-- Fetch that waits.
pub record AnswersFrame (dear may_wait : Bool) (s after : State) (frame out out' : List ℕ) : Type 0 where
  pub reply : List ℕ
  pub answers : IsAnswered s frame reply after
  pub dear_is : is_dear answers.request.body ≡ dear
  pub in_time : may_wait ≡ true → body_waits s answers.request.body ≡ false
  pub appends : out' ≡ out ++ reply

-- what is asked is a Fetch that waits, for so many milliseconds at the most
abbrev pub BodyWaits : State → BodyValue → (most : ℕ) → Type 0
BodyWaits s body most = (asked : FetchValue) × (body ≡ fetch asked) × (fetch_waits s asked ≡ true) × (most ≡ wait_of asked)

-- so is what a frame asks
abbrev pub FrameWaits : State → (frame : List ℕ) → (most : ℕ) → Type 0
FrameWaits s frame most = (request : RequestValue) × IsRequest frame request × BodyWaits s request.body most

-- why a frame isn't answered
abbrev pub StopsAnswer : List ℕ → NextError → Type 0
StopsAnswer frame (next.Frame why) = IsRefused why frame
StopsAnswer frame next.OutOfMemory = (request : RequestValue) × IsRequest frame request
StopsAnswer frame (next.PutOff place) = (request : RequestValue) × IsRequest frame request

-- ---- a turn

-- What was held is these frames and what is left, and their replies are owed behind what was.
pub record Turn (s : State) (old : SessionState) (es : List Exchange) (after : State) (new : SessionState) : Type 0 where
  pub cut : IsFrames old.held (frames_of es) new.held
  pub owes : new.owed ≡ old.owed ++ replied es
  pub counts : new.answered ≡ old.answered + length es
  pub in_turn : InTurn s es after

-- one frame, the first that was held, which is dear or isn't
pub record AnswersNext (dear ended over : Bool) (s : State) (old : SessionState) (after : State) (new : SessionState) : Type 0 where
  pub exchange : Exchange
  pub turn : Turn s old (exchange ∷ []) after new
  pub in_time : InTime ended over s (exchange ∷ []) after
  pub is : IsDear dear exchange.frame
  pub no_time : new.due ≡ None

-- the session in which the first frame waits, for so long at the most: from now on, if it didn't yet
abbrev pub waiting_for : (clock : ℕ) → SessionState → (most : ℕ) → SessionState
waiting_for clock now most = record now { due = Some (unwrap_or now.due (clock + most)) }

-- nothing has made the first frame due, which waits
pub record WaitsNext (clock : ℕ) (ended : Bool) (s : State) (old : SessionState) (after : State) (new : SessionState) (most : ℕ) : Type 0 where
  pub same : after ≡ s
  pub waits : WaitsFirst s old.held most
  pub some : 0 < most
  pub not_ended : ended ≡ false
  pub not_over : is_over clock old.due ≡ false
  pub is : new ≡ waiting_for clock old most

-- why a turn stopped that answered these: no complete frame is held, so much is owed, the last one was dear, the first frame that
-- is held waits, or it isn't answered
abbrev pub StopsTurn : (most clock : ℕ) (ended : Bool) → State → List Exchange → SessionState → Stop → Type 0
StopsTurn most clock ended s es now Short = IsIncomplete now.held
StopsTurn most clock ended s es now Full = most ≤ length now.owed
StopsTurn most clock ended s es now Dear = StopsBehindDear most es now
StopsTurn most clock ended s es now Waiting = (ended ≡ false) × IsWaiting clock s now
StopsTurn most clock ended s es now (Stopped why) = StopsNext now why

-- behind a turn that stopped so there may be nothing to do, of a session that is owed so much
abbrev pub MayIdle : (owed : List ℕ) → Stop → Type 0
MayIdle owed Dear = ⊥
MayIdle owed (Stopped why) = 0 < length owed
MayIdle owed _ = ⊤

-- why a turn stops behind a frame that is dear
abbrev pub IsLeftOff : (most : ℕ) → SessionState → Stop → Type 0
IsLeftOff most now Short = IsIncomplete now.held
IsLeftOff most now Full = most ≤ length now.owed
IsLeftOff most now Dear = HasFirst now.held × (length now.owed < most)
IsLeftOff most now _ = ⊥

-- Frames were answered until the turn stopped; of all only the last may be dear.
pub record TurnsUntil (most clock : ℕ) (ended : Bool) (s : State) (old : SessionState) (after : State) (new : SessionState) (stop : Stop) : Type 0 where
  pub exchanges : List Exchange
  pub turn : Turn s old exchanges after new
  pub below : IsOwedBelow most old.owed exchanges
  pub in_time : InTime ended (is_over clock old.due) s exchanges after
  pub times : Times clock most old exchanges after new.owed new
  pub dear : OnlyLastIsDear exchanges
  pub stops : StopsTurn most clock ended after exchanges new stop
  pub again : StopsBehindDear most exchanges new → stop ≡ Dear

-- for which partition's place the frame is put off at which a turn stopped, if it is
abbrev pub stop_place : Stop → Option Place
stop_place Short = None
stop_place Full = None
stop_place Dear = None
stop_place Waiting = None
stop_place (Stopped why) = next_place why

-- ---- reads and writes

-- a read brought a piece of so many bytes, which stands behind what was held
pub record Receives (old new : SessionState) (left left' : Option (List ℕ)) (count : ℕ) : Type 0 where
  pub piece : List ℕ
  pub count_is : length piece ≡ count
  pub leaves : Consumes left left' piece
  pub holds : new.held ≡ old.held ++ piece
  pub owes : new.owed ≡ old.owed
  pub counts : new.answered ≡ old.answered
  pub waits : new.due ≡ old.due

-- where a read failed, nothing left the reader; where memory lacks for what came, it is lost
abbrev pub FailsToReceive : (left left' : Option (List ℕ)) → ReceiveError → Type 0
FailsToReceive left left' (receive.Read why) = Keeps left left'
FailsToReceive left left' receive.OutOfMemory = (lost : List ℕ) × Consumes left left' lost

-- a writer took so many bytes of the front of what was owed
pub record Sends (old new : SessionState) (taken taken' : Option (List ℕ)) (count : ℕ) : Type 0 where
  pub front : List ℕ
  pub count_is : length front ≡ count
  pub takes : Appends taken taken' front
  pub owes : old.owed ≡ front ++ new.owed
  pub holds : new.held ≡ old.held
  pub counts : new.answered ≡ old.answered
  pub waits : new.due ≡ old.due

-- More was wanted and may be read: that came, one piece at the most, or nothing did.
pub record ComesIn (seat seat' : Seat) (old new : SessionState) (left left' : Option (List ℕ)) : Type 0 where
  pub count : ℕ
  pub receives : Receives old new left left' count
  pub piece : count ≤ READ_PIECE
  pub wanted : 0 < count → WantsMore old × (seat.may_read ≡ true) × (seat.at_end ≡ false)
  pub read_waits : seat'.may_read ≡ false → (seat.may_read ≡ false) ⊎ (count ≡ 0)
  pub ends : seat'.at_end ≡ true → (seat.at_end ≡ true) ⊎ (count ≡ 0) × IsAtEnd left'

-- a read was made: some bytes came, or one would wait now, or the input has ended
abbrev pub HasGot : (old : SessionState) → Seat → (new : SessionState) → Type 0
HasGot old seat new = (length old.held < length new.held) ⊎ ((seat.may_read ≡ false) ⊎ (seat.at_end ≡ true))

-- a read failed where one was due, and nothing came; or there was no memory for what came, which is lost
abbrev pub FailsToRead : (seat' : Seat) (old new : SessionState) (left left' : Option (List ℕ)) → Why → Type 0
FailsToRead seat' old new left left' (Read why) =
    (new ≡ old) × Keeps left left' × IsFault why × (seat'.may_read ≡ true) × WantsMore old
FailsToRead seat' old new left left' OutOfMemory =
    (new ≡ old) × ((lost : List ℕ) × Consumes left left' lost) × WantsMore old
FailsToRead seat' old new left left' _ = ⊥

-- so much was sent, or nothing
abbrev pub GoesOut : (old new : SessionState) (taken taken' : Option (List ℕ)) → Type 0
GoesOut old new taken taken' = (count : ℕ) × Sends old new taken taken' count

-- a write failed, and something is owed
abbrev pub WriteFault : SessionState → Why → Type 0
WriteFault now (Write why) = IsFault why × (0 < length now.owed)
WriteFault now _ = ⊥

-- So much was sent, or nothing, and what became of whether a write may be made.
pub record Writes (may may' : Bool) (old new : SessionState) (taken taken' : Option (List ℕ)) : Type 0 where
  pub goes : GoesOut old new taken taken'
  pub only : 0 < goes.0 → may ≡ true
  pub writes : may' ≡ true → may ≡ true
  pub waits : may' ≡ false → (may ≡ false) ⊎ (0 < length new.owed)

-- of so much that was owed so much is left: it was as much as may be, or something, and is less, or nothing
abbrev pub frees : (owing owed : ℕ) → Bool
frees owing owed = (nat_le MOST_OWED owing && nat_lt owed MOST_OWED) || (nat_lt 0 owing && nat_eq owed 0)

-- what is to be done for a failed call: it is made again, or would have waited, or else it is a fault
abbrev pub IsFailure : ErrorKind → Failure → Type 0
IsFailure is failure.Again = is ≡ kind.Interrupted
IsFailure is failure.Wait = is ≡ kind.WouldBlock
IsFailure is (failure.Fault why) = (why ≡ is) × IsFault why

-- it isn't over for a failed read
abbrev pub IsNoRead : Then → Type 0
IsNoRead (Over (Read why)) = ⊥
IsNoRead _ = ⊤

-- a visit moved these bytes and frames, and no others
pub record VisitsSession (clock : ℕ) (s : State) (seat : Seat) (old : SessionState) (after : State) (seat' : Seat) (new : SessionState) (left left' : Option (List ℕ)) (visit : Visit) : Type 0 where
  pub moved : Moved
  pub moves : Moves s old moved after new
  pub made : IsMade clock s seat seat' old moved after new left left' visit
