-- A session, read by read: what it has answered so far, and how it ends or stops.
use Rattle.std.proofs.Common.{◌≡◌, inl, inr, ℕ, ◌+◌, ◌^◌, ◌<◌, ◌≤◌, false, arith, List, [], ◌∷◌, ◌++◌, length, sym, ap, subst, ◌∙◌, append-nil, Result, Ok, Err, IfErr}
use Rattle.std.specs.Io.KnownBytes.{Consumes}
use Rattle.std.proofs.KnownBytes.{Consumes-nil, Consumes-trans, Consumes-kept, Appends-trans}
use Rattle.streams.specs.State.{SourceState, SinkState, ReadsOnce, ReadsMore, ReadsEnd}
use Rattle.frame_fields.specs.Frames.{IsIncomplete}
use Rattle.broker_core.specs.declared.session.SessionError.{SessionError}
use Rattle.broker_core.specs.declared.session.SessionError.TheVariants.{Frame, Read, Write, OutOfMemory}
use Rattle.broker_state.specs.State.{State}
use Rattle.sessions.specs.Below.{IsAnswered}
use Rattle.broker_core.specs.Sessions.{Session, EndsAs, StopsAs}
use Rattle.broker_core.specs.SessionSteps.{StopsReading, AnswersFront, StopsNext, StopsWithin, Serves}
use Rattle.sessions.proofs.Frames.{cut_append, cut_longer, one_cut}
use Rattle.broker_core.proofs.ServedFrames.{front_none, front_then}

-- ---- one read

-- bytes that come join what is held
front_longer : (s after : State) (sink sink' : SinkState) (held rest piece : List ℕ) (a b : ℕ)
    → AnswersFront s after sink sink' held rest a b → AnswersFront s after sink sink' (held ++ piece) (rest ++ piece) a b
front_longer s after sink sink' held rest piece a b p = record {
  frames = p.frames;
  output = p.output;
  takes = p.takes;
  answers = record {
    cut = cut_longer held rest piece p.frames p.answers.cut;
    answers = p.answers.answers;
  };
  counts = p.counts;
  no_write_failed = p.no_write_failed;
}

-- What was read is answered but for what is held, complete or not.
record Holds (s after : State) (source source' : SourceState) (sink sink' : SinkState) (held : List ℕ) (count : ℕ) : Type 0 where
  input : List ℕ
  leaves : Consumes source.left source'.left input
  front : AnswersFront s after sink sink' input held 0 count

more_held : (s after : State) (source mid source' : SourceState) (sink sink' : SinkState) (held held' : List ℕ) (count reads : ℕ)
    → Serves s after source mid sink sink' held count reads → ReadsMore mid source' held held' → Holds s after source source' sink sink' held' count
more_held s after source mid source' sink sink' held held' count reads p more =
    let piece = more.0.1.piece in
    record {
      input = p.input ++ piece;
      leaves = Consumes-trans source.left mid.left source'.left p.input piece p.leaves more.0.1.consumes;
      front = subst (λ x. AnswersFront s after sink sink' (p.input ++ piece) x 0 count) (sym more.0.1.appends) (front_longer s after sink sink' p.input held piece 0 count p.front);
    }

-- ---- how many reads are made

-- after the reads that were counted, and one more
pub few_reads : (first now next reads : ℕ) → now ≡ first + reads → reads < 2 ^ 32 → next ≤ now + 1 → next ≤ first + 2 ^ 32
few_reads first now next reads before few one = omega (arith, before, few, one)

-- after all of them
pub all_reads : (first now reads : ℕ) → now ≡ first + reads → reads ≡ 2 ^ 32 → now ≤ first + 2 ^ 32
all_reads first now reads before all = omega (arith, before, all)

-- ---- how a session goes on

pub nothing_served : (s : State) (source : SourceState) (sink : SinkState) → Serves s s source source sink sink [] 0 0
nothing_served s source sink = record {
  input = [];
  leaves = Consumes-nil source.left;
  front = front_none s sink [] 0;
  incomplete = inl (omega arith);
  few = omega arith;
  counts = omega arith;
}

counted_once : (first now next reads : ℕ) → now ≡ first + reads → next ≡ now + 1 → next ≡ first + (reads + 1)
counted_once first now next reads before one = omega (arith, before, one)

pub read_served : (s m after : State) (source mid source' : SourceState) (sink mid_sink sink' : SinkState) (held held' rest : List ℕ) (count index reads : ℕ)
    → Serves s m source mid sink mid_sink held count reads → ReadsMore mid source' held held' → ReadsOnce mid source'
    → AnswersFront m after mid_sink sink' held' rest count index → IsIncomplete rest → index < 2 ^ 63
    → Serves s after source source' sink sink' rest index (reads + 1)
read_served s m after source mid source' sink mid_sink sink' held held' rest count index reads p more once front incomplete few =
    let now = more_held s m source mid source' sink mid_sink held held' count reads p more in
    record {
      input = now.input;
      leaves = now.leaves;
      front = front_then s m after sink mid_sink sink' now.input held' rest 0 count index now.front front;
      incomplete = incomplete;
      few = few;
      counts = counted_once source.reads mid.reads source'.reads reads p.counts once.0;
    }

-- ---- how it ends

abbrev session_of : (s after : State) (source source' : SourceState) (sink sink' : SinkState) (input held : List ℕ) (count : ℕ)
    → Consumes source.left source'.left input → AnswersFront s after sink sink' input held 0 count → Session s source source' sink sink' after
session_of s after source source' sink sink' input held count leaves front = record {
  input = input;
  output = front.output;
  frames = front.frames;
  rest = held;
  moves = record { leaves = leaves; takes = front.takes };
  answers = front.answers;
}

pub session_ends : (s after : State) (source mid source' : SourceState) (sink sink' : SinkState) (held held' : List ℕ) (count reads n : ℕ)
    → Serves s after source mid sink sink' held count reads → ReadsEnd mid source' held held' → source'.failed ≡ false → n ≡ length held'
    → EndsAs s source source' sink sink' after (record { frames = count; rest = n })
session_ends s after source mid source' sink sink' held held' count reads n p end fine long =
    let leaves : Consumes source.left source'.left p.input = subst (Consumes source.left source'.left) (append-nil p.input) (Consumes-trans source.left mid.left source'.left p.input [] p.leaves end.0) in
    record {
      session = session_of s after source source' sink sink' p.input held count leaves p.front;
      at_end = end.1;
      has_not_failed = fine;
      incomplete = p.incomplete;
      frames = omega (arith, p.front.counts);
      rest = long ∙ ap length end.2;
    }

-- ---- how it stops

pub reading_stops : (s after : State) (source mid source' : SourceState) (sink sink' : SinkState) (held : List ℕ) (count reads : ℕ) (e : SessionError)
    → Serves s after source mid sink sink' held count reads → StopsReading mid source' e → StopsAs s source source' sink sink' after e
reading_stops s after source mid source' sink sink' held count reads Read p stops =
    let leaves = Consumes-kept source.left mid.left source'.left p.input p.leaves stops.0 in
    (session_of s after source source' sink sink' p.input held count leaves p.front, p.incomplete, inl stops.1)
reading_stops s after source mid source' sink sink' held count reads OutOfMemory p stops =
    let leaves = subst (λ x. Consumes source.left x.left p.input) (sym stops.0) p.leaves in
    (session_of s after source source' sink sink' p.input held count leaves p.front, stops.1, inl p.incomplete)
reading_stops s after source mid source' sink sink' held count reads Write p stops = absurd stops
reading_stops s after source mid source' sink sink' held count reads (Frame index why) p stops = absurd stops

-- the last read was made
pub read_out : (s after : State) (source source' : SourceState) (sink sink' : SinkState) (held : List ℕ) (count reads : ℕ)
    → Serves s after source source' sink sink' held count reads → reads ≡ 2 ^ 32 → StopsAs s source source' sink sink' after Read
read_out s after source source' sink sink' held count reads p all =
    (session_of s after source source' sink sink' p.input held count p.leaves p.front, p.incomplete, inr (p.counts ∙ ap (λ (n : ℕ). source.reads + n) all))

stops_at : (s before after : State) (source source' : SourceState) (sink mid_sink sink' : SinkState) (input held : List ℕ) (index : ℕ) (e : SessionError)
    → Consumes source.left source'.left input → AnswersFront s before sink mid_sink input held 0 index → StopsNext before after mid_sink sink' held index e
    → source'.failed ≡ false → StopsAs s source source' sink sink' after e
stops_at s before after source source' sink mid_sink sink' input held index (Frame n why) leaves front stops fine =
    subst (λ x. StopsAs s source source' sink x after (Frame n why)) (sym stops.1)
    (subst (λ x. StopsAs s source source' sink mid_sink x (Frame n why)) (sym stops.0)
    (session_of s before source source' sink mid_sink input held index leaves front, omega (arith, stops.2, front.counts), stops.3))
stops_at s before after source source' sink mid_sink sink' input held index OutOfMemory leaves front stops fine =
    subst (λ x. StopsAs s source source' sink x after OutOfMemory) (sym stops.1)
    (subst (λ x. StopsAs s source source' sink mid_sink x OutOfMemory) (sym stops.0)
    (session_of s before source source' sink mid_sink input held index leaves front, fine, stops.2))
stops_at s before after source source' sink mid_sink sink' input held index Read leaves front stops fine = absurd stops
stops_at s before after source source' sink mid_sink sink' input held index Write leaves front stops fine =
    let last = stops.0 in
    let lost = last.loses.0 in
    let taken = last.loses.2 in (
      record {
        input = input;
        output = front.output;
        frames = front.frames;
        frame = last.frame;
        rest = last.more;
        before = before;
        front = taken.front;
        lost = lost;
        moves = record {
          leaves = leaves;
          takes = Appends-trans sink.taken mid_sink.taken sink'.taken front.output taken.front front.takes taken.appends;
        };
        cut = cut_append input held last.more front.frames (last.frame ∷ []) front.answers.cut (one_cut held last.frame last.more last.first);
        answers = front.answers.answers;
        answers_last = subst (λ x. IsAnswered before last.frame x after) taken.parts last.answers;
        loses = last.loses.1;
      },
      stops.1,
    )

pub answering_stops : (s m after : State) (source mid source' : SourceState) (sink mid_sink sink' : SinkState) (held held' : List ℕ) (count reads : ℕ) (e : SessionError)
    → Serves s m source mid sink mid_sink held count reads → ReadsMore mid source' held held' → ReadsOnce mid source'
    → StopsWithin m after mid_sink sink' held' count e → StopsAs s source source' sink sink' after e
answering_stops s m after source mid source' sink mid_sink sink' held held' count reads e p more once stops =
    let now = more_held s m source mid source' sink mid_sink held held' count reads p more in
    let front = front_then s m stops.before sink mid_sink stops.sink_before now.input held' stops.rest 0 count stops.index now.front stops.front in
    stops_at s stops.before after source source' sink stops.sink_before sink' now.input stops.rest stops.index e now.leaves front stops.stops once.1

-- so many frames were answered that their number goes no further
pub frames_out : (s m after : State) (source mid source' : SourceState) (sink mid_sink sink' : SinkState) (held held' rest : List ℕ) (count index reads : ℕ)
    → Serves s m source mid sink mid_sink held count reads → ReadsMore mid source' held held' → ReadsOnce mid source'
    → AnswersFront m after mid_sink sink' held' rest count index → IsIncomplete rest → StopsAs s source source' sink sink' after OutOfMemory
frames_out s m after source mid source' sink mid_sink sink' held held' rest count index reads p more once front incomplete =
    let now = more_held s m source mid source' sink mid_sink held held' count reads p more in
    let all = front_then s m after sink mid_sink sink' now.input held' rest 0 count index now.front front in
    (session_of s after source source' sink sink' now.input rest index now.leaves all, once.1, inl incomplete)

pub if_err : {T E : Type 0} (P Q : E → Type 0) (r : Result T E) → ((e : E) → P e → Q e) → IfErr r P → IfErr r Q
if_err P Q (Ok x) f p = p
if_err P Q (Err e) f p = f e p
