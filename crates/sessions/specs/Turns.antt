-- A client's session, and its frames answered. Kafka's documentation, "Protocol Guide", section "Network": requests of a
-- connection are answered in the order in which they were sent, and a client may send further ones before a reply came.
use Rattle.std.specs.Prelude.{◌≡◌, ◌⊎◌, ℕ, ◌+◌, ◌-◌, ◌^◌, ◌<◌, ⊤, Bool, true, false, nat_le, List, [], ◌∷◌, ◌++◌, length, map, Option, Some, None}
use Rattle.std.specs.List.{flat_map}
use Rattle.frame_fields.specs.declared.error.FrameError.{FrameError}
use Rattle.frame_fields.specs.Frames.{IsFirstFrame, SizeFault, stream}
use Rattle.request_frames.specs.Fetch.{FetchValue}
use Rattle.request_frames.specs.Requests.{RequestValue, IsRequest}
use Rattle.request_frames.specs.Requests.BodyValue.{fetch}
use Rattle.fetch_waits.specs.Waiting.{fetch_waits, body_waits, wait_of}
use Rattle.broker_state.specs.declared.place.Place.{Place}
use Rattle.broker_state.specs.State.{State}
use Rattle.broker_node.specs.Effects.{is_dear}
use Rattle.broker_node.specs.Streams.{IsAnswered, RefusesNext}
use Rattle.sessions.specs.declared.replying.Next.{Next}
use Rattle.sessions.specs.declared.replying.Next.TheVariants.{Answered, Short, Waits}
use Rattle.sessions.specs.declared.replying.NextError.{NextError}
use Rattle.sessions.specs.declared.replying.NextError.TheVariants.{Frame, OutOfMemory, PutOff}
use Rattle.sessions.specs.declared.handler.Unhandled.{Unhandled}
use Rattle.sessions.specs.declared.handler.Unhandled.TheVariants as unhandled

-- a frame, and the bytes that were replied to it: none where it is not answered
pub record Exchange : Type 0 where
  pub frame : List ℕ
  pub reply : List ℕ

abbrev pub frames_of : List Exchange → List (List ℕ)
frames_of es = map (λ e. e.frame) es

-- the frames behind their sizes, as they came
abbrev pub asked : List Exchange → List ℕ
asked es = stream (frames_of es)

-- the replies, one after the other
abbrev pub replied : List Exchange → List ℕ
replied es = flat_map (λ e. e.reply) es

-- each frame is a request, and its reply is what may be replied in the state that those before it left
abbrev pub InTurn : State → List Exchange → State → Type 0
InTurn s [] after = s ≡ after
InTurn s (e ∷ es) after = (m : State) × IsAnswered s e.frame e.reply m × InTurn m es after

-- The same, and a Fetch that waits is answered only where the input has ended, or, if it is the first one, its time is over.
abbrev pub InTime : (ended over : Bool) → State → List Exchange → State → Type 0
InTime ended over s [] after = s ≡ after
InTime ended over s (e ∷ es) after =
    (m : State) × (a : IsAnswered s e.frame e.reply m)
    × (body_waits s a.request.body ≡ true → (ended ≡ true) ⊎ (over ≡ true)) × InTime ended false m es after

-- ---- one frame

-- The first frame that was held is answered, the rest is held, and its reply stands behind what was written. Where it may
-- wait it isn't a Fetch that waits.
pub record AnswersFirst (may_wait : Bool) (s after : State) (held rest out out' : List ℕ) : Type 0 where
  pub exchange : Exchange
  pub first : IsFirstFrame exchange.frame held rest
  pub answers : IsAnswered s exchange.frame exchange.reply after
  pub in_time : may_wait ≡ true → body_waits s answers.request.body ≡ false
  pub appends : out' ≡ out ++ exchange.reply

-- the first frame that is held is a Fetch that waits, for so many milliseconds at the most
pub record WaitsFirst (s : State) (held : List ℕ) (most : ℕ) : Type 0 where
  pub frame : List ℕ
  pub rest : List ℕ
  pub request : RequestValue
  pub asked : FetchValue
  pub first : IsFirstFrame frame held rest
  pub reads : IsRequest frame request
  pub is_fetch : request.body ≡ fetch asked
  pub waits : fetch_waits s asked ≡ true
  pub most_is : most ≡ wait_of asked

-- what holds where the first frame was answered, where none is complete, and where it waits for so long
abbrev pub MatchNext : Next → Type 0 → Type 0 → (ℕ → Type 0) → Type 0
MatchNext Answered A S W = A
MatchNext Short A S W = S
MatchNext (Waits most) A S W = W most

-- a frame is there, or its size is refused
abbrev pub HasFirst : List ℕ → Type 0
HasFirst held = ((frame rest : List ℕ) × IsFirstFrame frame held rest) ⊎ ((e : FrameError) × SizeFault e held)

-- the first frame that is held is a request
abbrev pub HasRequest : List ℕ → Type 0
HasRequest held = (frame rest : List ℕ) × (request : RequestValue) × IsFirstFrame frame held rest × IsRequest frame request

-- why the first frame that is held isn't answered: it is refused, or it is a request, and memory lacks for the response, or it is
-- put off
abbrev pub StopsFirst : List ℕ → NextError → Type 0
StopsFirst held (Frame why) = RefusesNext why held
StopsFirst held OutOfMemory = HasRequest held
StopsFirst held (PutOff place) = HasRequest held

-- for which partition's place a request is put off, if it is
abbrev pub unhandled_place : Unhandled → Option Place
unhandled_place unhandled.OutOfMemory = None
unhandled_place (unhandled.PutOff place) = Some place

-- for which one the first frame is
abbrev pub next_place : NextError → Option Place
next_place (Frame why) = None
next_place OutOfMemory = None
next_place (PutOff place) = Some place

-- ---- a session

-- A client's session: the bytes that came and aren't answered, those that are owed and aren't sent, how many frames were
-- answered, and until when the first one that is held waits, once it was found to.
pub record SessionState : Type 0 where
  pub held : List ℕ
  pub owed : List ℕ
  pub answered : ℕ
  pub due : Option ℕ

-- one of which nothing came yet
abbrev pub new_session : SessionState
new_session = record { held = []; owed = []; answered = 0; due = None }

-- each frame was answered while fewer bytes were owed than may be
abbrev pub IsOwedBelow : (most : ℕ) (owed : List ℕ) → List Exchange → Type 0
IsOwedBelow most owed [] = ⊤
IsOwedBelow most owed (e ∷ es) = (length owed < most) × IsOwedBelow most (owed ++ e.reply) es

-- why a session's first frame isn't answered; memory counts as lacking, too, where no greater number of frames can be
-- counted than were answered
abbrev pub StopsNext : SessionState → NextError → Type 0
StopsNext now (Frame why) = StopsFirst now.held (Frame why)
StopsNext now OutOfMemory = StopsFirst now.held OutOfMemory ⊎ (now.answered ≡ 2 ^ 64 - 1)
StopsNext now (PutOff place) = StopsFirst now.held (PutOff place)

-- ---- frames that are dear

-- a frame is a request that may take long, or one that doesn't
abbrev pub IsDear : (dear : Bool) → (frame : List ℕ) → Type 0
IsDear dear frame = (request : RequestValue) × IsRequest frame request × (is_dear request.body ≡ dear)

-- of these frames only the last may be dear
abbrev pub OnlyLastIsDear : List Exchange → Type 0
OnlyLastIsDear [] = ⊤
OnlyLastIsDear (e ∷ []) = ⊤
OnlyLastIsDear (e ∷ f ∷ es) = IsDear false e.frame × OnlyLastIsDear (f ∷ es)

-- and it is
abbrev pub LastIsDear : List Exchange → Type 0
LastIsDear [] = ⊥
LastIsDear (e ∷ []) = IsDear true e.frame
LastIsDear (e ∷ f ∷ es) = LastIsDear (f ∷ es)

-- the last frame that was answered is dear, and another is there, which might be answered: less is owed than may be
abbrev pub StopsBehindDear : (most : ℕ) → List Exchange → SessionState → Type 0
StopsBehindDear most es now = LastIsDear es × HasFirst now.held × (length now.owed < most)

-- ---- a frame that waits

-- a time is over, by a clock in milliseconds
abbrev pub is_over : (clock : ℕ) → Option ℕ → Bool
is_over clock None = false
is_over clock (Some due) = nat_le due clock

-- the first frame that is held is a Fetch that waits, and its time isn't over
pub record IsWaiting (clock : ℕ) (s : State) (now : SessionState) : Type 0 where
  pub most : ℕ
  pub until : ℕ
  pub waits : WaitsFirst s now.held most
  pub due_is : now.due ≡ Some until
  pub later : clock < until

-- No time is moved while its frame is held. One that wasn't there before is that of the first frame that is held now, which
-- waits, and was come to, as less was owed than may be: it begins now.
pub record Times (clock limit : ℕ) (old : SessionState) (es : List Exchange) (after : State) (owing : List ℕ) (now : SessionState) : Type 0 where
  pub stays : es ≡ [] → (until : ℕ) → old.due ≡ Some until → now.due ≡ Some until
  pub begins : (until : ℕ) → now.due ≡ Some until
      → ((es ≡ []) × (old.due ≡ Some until))
      ⊎ ((most : ℕ) × WaitsFirst after now.held most × (length owing < limit) × (until ≡ clock + most))
