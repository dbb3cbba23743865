-- What a visit of a session and a send do, and what is to be done with the session then. Of a reader it is known what it has
-- left to give, and of a writer what it has taken, where that is known.
use Rattle.std.specs.Prelude.{◌≡◌, ◌≢◌, ◌⊎◌, ℕ, ◌+◌, ◌<◌, ◌≤◌, Bool, ◌||◌, true, false, List, [], ◌++◌, length, Option, Some, None, Result, Ok, Err, MatchBool, ⊤}
use Rattle.std.specs.Io.KnownBytes.{Consumes, Keeps, Appends, IsAtEnd}
use Rattle.std_io.specs.declared.io.kind.ErrorKind.{ErrorKind}
use Rattle.std_io.specs.declared.io.kind.ErrorKind.TheVariants as kind
use Rattle.frame_fields.specs.Frames.{IsFrames, IsIncomplete}
use Rattle.broker_state.specs.declared.place.Place.{Place}
use Rattle.broker_state.specs.State.{State}
use Rattle.broker_node.specs.Streams.{RefusesNext}
use Rattle.sessions.specs.Turns.{Exchange, SessionState, HasFirst, StopsNext, IsOwedBelow, OnlyLastIsDear, StopsBehindDear, IsWaiting, InTurn, InTime, Times, frames_of, is_over, replied}
use Rattle.sessions.specs.declared.replying.NextError.{NextError}
use Rattle.sessions.specs.declared.replying.NextError.TheVariants.{OutOfMemory as NoMemory, PutOff as NotYet}
use Rattle.sessions.specs.declared.visiting.TheConstants.{MOST_OWED, READ_PIECE}
use Rattle.sessions.specs.declared.visiting.Seat.{Seat}
use Rattle.sessions.specs.declared.visiting.Visit.{Visit}
use Rattle.sessions.specs.declared.visiting.Flushed.{Flushed}
use Rattle.sessions.specs.declared.visiting.Why.{Why}
use Rattle.sessions.specs.declared.visiting.Why.TheVariants.{End, Read, Write, Frame, OutOfMemory}
use Rattle.sessions.specs.declared.visiting.Then.{Then}
use Rattle.sessions.specs.declared.visiting.Then.TheVariants.{Again, Dear, Idle, PutOff, Over}

-- what a visit or a send moved: the bytes that came, the frames that were answered with their replies, the bytes that were sent
pub record Moved : Type 0 where
  pub came : List ℕ
  pub exchanges : List Exchange
  pub sent : List ℕ

-- What was held and what came is these frames and what is left; what was owed and the replies to them is what was sent
-- and what is owed still.
pub record Moves (s : State) (old : SessionState) (moved : Moved) (after : State) (new : SessionState) : Type 0 where
  pub cut : IsFrames (old.held ++ moved.came) (frames_of moved.exchanges) new.held
  pub owes : old.owed ++ replied moved.exchanges ≡ moved.sent ++ new.owed
  pub counts : new.answered ≡ old.answered + length moved.exchanges
  pub in_turn : InTurn s moved.exchanges after

-- ---- what bounds a visit

-- no complete frame is held, and less is owed than may be
abbrev pub WantsMore : SessionState → Type 0
WantsMore st = IsIncomplete st.held × (length st.owed < MOST_OWED)

-- One piece comes at the most, and only where more is wanted and may be read; each frame is answered while less is owed than
-- may be; and of all only the last may be dear.
pub record IsBounded (seat : Seat) (old : SessionState) (moved : Moved) : Type 0 where
  pub piece : length moved.came ≤ READ_PIECE
  pub comes : 0 < length moved.came → WantsMore old × (seat.may_read ≡ true) × (seat.at_end ≡ false)
  pub answers : IsOwedBelow MOST_OWED old.owed moved.exchanges
  pub dear : OnlyLastIsDear moved.exchanges

-- When a visit stopped answering: what the broker is then, and the clock.
pub record Moment : Type 0 where
  pub state : State
  pub clock : ℕ

-- the input has ended, or the client is known to send nothing more
abbrev pub has_ended : Seat → Bool
has_ended seat = seat.at_end || seat.is_closing

-- the first frame that is held waits, and nothing has made it due
abbrev pub Waits : Moment → Seat → SessionState → Type 0
Waits at seat now = (has_ended seat ≡ false) × IsWaiting at.clock at.state now

-- the first frame that is held isn't answered
abbrev pub HasStop : SessionState → Type 0
HasStop now = (why : NextError) × StopsNext now why

-- these frames were answered until none was complete, the first one couldn't be, or waits, so much was owed, or the last was dear
abbrev pub IsDone : Moment → Seat → List Exchange → SessionState → Type 0
IsDone at seat es new =
    IsIncomplete new.held ⊎ (HasStop new ⊎ (Waits at seat new ⊎ ((MOST_OWED ≤ length new.owed) ⊎ StopsBehindDear MOST_OWED es new)))

-- nothing was moved, and the session is as it was
abbrev pub MovesNothing : (old : SessionState) (moved : Moved) (new : SessionState) → Type 0
MovesNothing old moved new = (new ≡ old) × (moved.came ≡ []) × (moved.exchanges ≡ [])

-- what came left a reader, and all was answered that could be
abbrev pub IsServed : Moment → Seat → (moved : Moved) (new : SessionState) (left left' : Option (List ℕ)) → Type 0
IsServed at seat moved new left left' = Consumes left left' moved.came × IsDone at seat moved.exchanges new

-- What left a reader came and was served. But a failed read moves nothing, and what came is lost where memory lacks for
-- it: then the session is over.
abbrev pub Serves : Moment → Seat → (old : SessionState) (moved : Moved) (new : SessionState) (left left' : Option (List ℕ)) → Then → Type 0
Serves at seat old moved new left left' (Over (Read why)) = MovesNothing old moved new × Keeps left left'
Serves at seat old moved new left left' (Over OutOfMemory) =
    (MovesNothing old moved new × ((lost : List ℕ) × Consumes left left' lost)) ⊎ IsServed at seat moved new left left'
Serves at seat old moved new left left' _ = IsServed at seat moved new left left'

-- ---- what a visit learns of a connection

-- A read is marked as one that may not be made only where it gave nothing; none is marked as one that may. The input has
-- ended where it had, or where nothing came and the reader is at its end.
pub record Learns (old new : Seat) (moved : Moved) (left' : Option (List ℕ)) : Type 0 where
  pub reads : new.may_read ≡ true → old.may_read ≡ true
  pub read_waits : new.may_read ≡ false → (old.may_read ≡ false) ⊎ (moved.came ≡ [])
  pub writes : new.may_write ≡ old.may_write
  pub ended : old.at_end ≡ true → new.at_end ≡ true
  pub ends : new.at_end ≡ true → (old.at_end ≡ true) ⊎ (moved.came ≡ []) × IsAtEnd left'
  pub closing : new.is_closing ≡ old.is_closing

-- where a visit goes on so, a read was made: some bytes came, or one would wait now, or the input has ended; else it failed, or
-- memory lacked for what it brought
abbrev pub HasRead : Moved → Seat → Then → Type 0
HasRead moved seat (Over (Read why)) = ⊤
HasRead moved seat (Over OutOfMemory) = ⊤
HasRead moved seat _ = (0 < length moved.came) ⊎ ((seat.may_read ≡ false) ⊎ (seat.at_end ≡ true))

-- a visit reads where more is wanted and may be read, unless the read was interrupted
abbrev pub Reads : Seat → SessionState → Moved → Seat → Visit → Type 0
Reads seat old moved seat' visit =
    WantsMore old → seat.may_read ≡ true → seat.at_end ≡ false → visit.was_interrupted ≡ false → HasRead moved seat' visit.then

-- ---- how it goes on

-- a call of the system failed: it isn't one that would have waited, or that is to be made again
abbrev pub IsFault : ErrorKind → Type 0
IsFault why = (why ≢ kind.WouldBlock) × (why ≢ kind.Interrupted)

-- Why a session is over: at the end of its input, where no complete frame is held; where the first frame that is held is
-- refused, or memory lacks for its response; in these all that was owed has left. Else a read failed, or memory lacked for
-- what it brought, where more was wanted. For a failed write it is over behind a send alone.
abbrev pub IsOver : Seat → SessionState → Why → Type 0
IsOver seat now End = (seat.at_end ≡ true) × IsIncomplete now.held × (now.owed ≡ [])
IsOver seat now (Frame why) = RefusesNext why now.held × (now.owed ≡ [])
IsOver seat now (Read why) = IsFault why × (seat.may_read ≡ true) × WantsMore now
IsOver seat now (Write why) = ⊥
IsOver seat now OutOfMemory = WantsMore now ⊎ StopsNext now NoMemory × (now.owed ≡ [])

-- no complete frame is held, and more may be read
abbrev pub CanRead : Seat → SessionState → Type 0
CanRead seat now = IsIncomplete now.held × (seat.may_read ≡ true) × (seat.at_end ≡ false)

-- less is owed than may be, and more can be read
abbrev pub HasMore : Seat → SessionState → Type 0
HasMore seat now = (length now.owed < MOST_OWED) × CanRead seat now

-- A visit can do nothing for a session before more of what is owed has left, its connection changes, or the frame that waits is
-- due: no frame can be answered, for want of bytes, or because so much is owed, or because the first one that is held isn't
-- answered, or waits; nothing can be read; and it isn't over.
pub record IsIdle (at : Moment) (seat : Seat) (now : SessionState) : Type 0 where
  pub no_answer : length now.owed < MOST_OWED → IsIncomplete now.held ⊎ (HasStop now ⊎ Waits at seat now)
  pub no_read : length now.owed < MOST_OWED → IsIncomplete now.held
      → (seat.may_read ≡ false) ⊎ ((seat.at_end ≡ true) ⊎ HasStop now)
  pub not_over : now.owed ≡ [] → (seat.at_end ≡ false) × (IsIncomplete now.held ⊎ Waits at seat now)

-- what is to be done, behind these frames, is what a visit says
abbrev pub GoesOn : Moment → Seat → List Exchange → SessionState → Then → Type 0
GoesOn at seat es now Again = HasMore seat now
GoesOn at seat es now Dear = StopsBehindDear MOST_OWED es now
GoesOn at seat es now Idle = IsIdle at seat now
GoesOn at seat es now (PutOff place) = StopsNext now (NotYet place)
GoesOn at seat es now (Over why) = IsOver seat now why

-- for which partition's place the first frame is put off, if it is
abbrev pub then_place : Then → Option Place
then_place (PutOff place) = Some place
then_place _ = None

-- All that a visit is, beside what it moved. It tells how many frames were answered, and sends nothing.
pub record IsMade (clock : ℕ) (s : State) (seat seat' : Seat) (old : SessionState) (moved : Moved) (after : State) (new : SessionState) (left left' : Option (List ℕ)) (visit : Visit) : Type 0 where
  pub counts : visit.answered ≡ length moved.exchanges
  pub sends_nothing : moved.sent ≡ []
  pub bounded : IsBounded seat old moved
  pub reads : Reads seat old moved seat' visit
  pub in_time : InTime (has_ended seat') (is_over clock old.due) s moved.exchanges after
  pub times : Times clock MOST_OWED old moved.exchanges after new.owed new
  pub serves : Serves (record { state = after; clock = clock }) seat' old moved new left left' visit.then
  pub learns : Learns seat seat' moved left'
  pub goes_on : GoesOn (record { state = after; clock = clock }) seat' moved.exchanges new visit.then
  pub dear_again : StopsBehindDear MOST_OWED moved.exchanges new → visit.then ≡ Dear

-- ---- sends

-- What was owed kept a visit from something, and does so no more: as much was owed as may be, or something was, and now it is
-- less, or nothing. And a visit may have something to do: a frame is there, the input has ended, or more may be read.
abbrev pub IsReady : (old : SessionState) → Seat → SessionState → Type 0
IsReady old seat now =
    ((MOST_OWED ≤ length old.owed) × (length now.owed < MOST_OWED) ⊎ (0 < length old.owed) × (now.owed ≡ []))
    × (HasFirst now.held ⊎ ((seat.at_end ≡ true) ⊎ (seat.may_read ≡ true)))

-- where a visit could do nothing before, it can't now
abbrev pub StaysIdle : (old : SessionState) → Seat → SessionState → Type 0
StaysIdle old seat now = (at : Moment) → IsIdle at seat old → IsIdle at seat now

-- so many bytes left, and it is told whether a visit may have something to do; or a write failed that might be made, and
-- something is owed still
abbrev pub TellsSent : (old : SessionState) → Seat → (sent : List ℕ) → SessionState → Result Flushed Why → Type 0
TellsSent old seat sent now (Ok flushed) =
    (flushed.bytes ≡ length sent) × MatchBool flushed.is_ready (IsReady old seat now) (StaysIdle old seat now)
TellsSent old seat sent now (Err (Write why)) = IsFault why × (seat.may_write ≡ true) × (0 < length now.owed)
TellsSent old seat sent now (Err _) = ⊥

-- Where something was owed, and a write might be made and may be still, some of it left, or it tells that its writes were
-- interrupted.
abbrev pub GetsOn : (old : SessionState) → Seat → (sent : List ℕ) → Result Flushed Why → Type 0
GetsOn old seat sent (Ok flushed) = flushed.was_interrupted ≡ false → seat.may_write ≡ true → 0 < length old.owed → 0 < length sent
GetsOn old seat sent (Err why) = ⊤

-- A front of what was owed was sent, where it might be written, and nothing else became of the session, nor of what is known
-- of its connection but whether a write may be made.
pub record SendsTo (seat : Seat) (old : SessionState) (seat' : Seat) (new : SessionState) (taken taken' : Option (List ℕ)) (result : Result Flushed Why) : Type 0 where
  pub sent : List ℕ
  pub takes : Appends taken taken' sent
  pub owes : old.owed ≡ sent ++ new.owed
  pub stays : new ≡ record old { owed = new.owed }
  pub goes : 0 < length sent → seat.may_write ≡ true
  pub seat_stays : seat' ≡ record seat { may_write = seat'.may_write }
  pub writes : seat'.may_write ≡ true → seat.may_write ≡ true
  pub write_waits : seat'.may_write ≡ false → (seat.may_write ≡ false) ⊎ (0 < length new.owed)
  pub tells : TellsSent old seat' sent new result
  pub gets_on : GetsOn old seat' sent result
