-- Frames that a session holds: the first one answered, some and then others, and how many they can be.
use Rattle.std.proofs.Common.{◌≡◌, ℕ, ◌+◌, ◌^◌, ◌<◌, ◌≤◌, arith, Fits, w64, true, false, List, [], ◌∷◌, ◌++◌, length, inr, refl, sym, ap, subst, ◌∙◌, append_assoc, append-nil}
use Rattle.std.specs.Io.KnownBytes.{Appends}
use Rattle.std.proofs.KnownBytes.{Appends-nil, Appends-trans}
use Rattle.std.proofs.lemmas.List.{length-append}
use Rattle.streams.specs.State.{SinkState, LosesRest}
use Rattle.frame_fields.specs.declared.error.FrameError.{FrameError}
use Rattle.sessions.specs.declared.replying.NextError.TheVariants as next
use Rattle.sessions.specs.Turns.{AnswersFirst, StopsFirst}
use Rattle.sessions.proofs.Frames.{no_frames, one_cut, cut_append, cut_length}
use Rattle.broker_core.specs.declared.session.SessionError.TheVariants.{Frame, Write, OutOfMemory}
use Rattle.broker_core.specs.declared.session.SessionError.{SessionError}
use Rattle.broker_state.specs.State.{State}
use Rattle.sessions.specs.Below.{AreAnswered}
use Rattle.broker_core.specs.SessionSteps.{AnswersFront, StopsNext, StopsWithin}

-- ---- one frame

-- the first frame is answered, and the sink took its reply
pub first_answered : (s after : State) (sink sink' : SinkState) (held rest cleared out : List ℕ) (index : ℕ)
    → AnswersFirst false s after held rest cleared out → cleared ≡ [] → Appends sink.taken sink'.taken out → sink'.failed ≡ sink.failed
    → AnswersFront s after sink sink' held rest index (index + 1)
first_answered s after sink sink' held rest cleared out index a empty takes fine =
    let is : out ≡ a.exchange.reply = a.appends ∙ ap (λ (x : List ℕ). x ++ a.exchange.reply) empty in
    record {
      frames = a.exchange.frame ∷ [];
      output = a.exchange.reply;
      takes = subst (Appends sink.taken sink'.taken) is takes;
      answers = record {
        cut = one_cut held a.exchange.frame rest a.first;
        answers = (a.exchange.reply, [], after, a.answers, sym (append-nil a.exchange.reply), (refl, refl));
      };
      counts = refl;
      no_write_failed = fine;
    }

-- ---- a frame that is refused, or for which there is no memory

pub frame_stops : (s after : State) (sink : SinkState) (held : List ℕ) (index : ℕ) (why : FrameError) → StopsFirst held (next.Frame why) → after ≡ s
    → StopsNext s after sink sink held index (Frame index why)
frame_stops s after sink held index why stops same = (same, refl, refl, stops)

pub memory_stops : (s after : State) (sink : SinkState) (held : List ℕ) (index : ℕ) → StopsFirst held next.OutOfMemory → after ≡ s → StopsNext s after sink sink held index OutOfMemory
memory_stops s after sink held index stops same = (same, refl, inr (stops.0, stops.1, stops.3))

-- a reply of which the sink took only a front
pub write_stops : (s after : State) (sink sink' : SinkState) (held rest cleared out : List ℕ) (index : ℕ)
    → AnswersFirst false s after held rest cleared out → cleared ≡ [] → LosesRest sink.taken sink'.taken out → sink'.failed ≡ true
    → StopsNext s after sink sink' held index Write
write_stops s after sink sink' held rest cleared out index a empty loses failed =
    let is : out ≡ a.exchange.reply = a.appends ∙ ap (λ (x : List ℕ). x ++ a.exchange.reply) empty in (
      record {
        frame = a.exchange.frame;
        more = rest;
        reply = a.exchange.reply;
        first = a.first;
        answers = a.answers;
        loses = subst (LosesRest sink.taken sink'.taken) is loses;
      },
      failed,
    )

-- ---- frames, and then others

answered_append : (s m after : State) (fs gs : List (List ℕ)) (out more : List ℕ) → AreAnswered s fs out m → AreAnswered m gs more after → AreAnswered s (fs ++ gs) (out ++ more) after
answered_append s m after [] gs out more a b =
    subst (λ x. AreAnswered s gs (x ++ more) after) (sym a.0) (subst (λ x. AreAnswered x gs more after) (sym a.1) b)
answered_append s m after (f ∷ fs) gs out more a b = (
  a.0,
  a.1 ++ more,
  a.2,
  a.3,
  ap (λ (x : List ℕ). x ++ more) a.4 ∙ append_assoc a.0 a.1 more,
  answered_append a.2 m after fs gs a.1 more a.5 b,
)

pub front_none : (s : State) (sink : SinkState) (held : List ℕ) (count : ℕ) → AnswersFront s s sink sink held held count count
front_none s sink held count = record {
  frames = [];
  output = [];
  takes = Appends-nil sink.taken;
  answers = record { cut = no_frames held; answers = (refl, refl) };
  counts = omega arith;
  no_write_failed = refl;
}

pub front_then : (s m after : State) (sink mid_sink sink' : SinkState) (held mid rest : List ℕ) (a b c : ℕ)
    → AnswersFront s m sink mid_sink held mid a b → AnswersFront m after mid_sink sink' mid rest b c → AnswersFront s after sink sink' held rest a c
front_then s m after sink mid_sink sink' held mid rest a b c p q = record {
  frames = p.frames ++ q.frames;
  output = p.output ++ q.output;
  takes = Appends-trans sink.taken mid_sink.taken sink'.taken p.output q.output p.takes q.takes;
  answers = record {
    cut = cut_append held mid rest p.frames q.frames p.answers.cut q.answers.cut;
    answers = answered_append s m after p.frames q.frames p.output q.output p.answers.answers q.answers.answers;
  };
  counts = omega (arith, p.counts, q.counts, length-append p.frames q.frames);
  no_write_failed = q.no_write_failed ∙ p.no_write_failed;
}

-- ---- how many they can be

-- a frame is held in four bytes at least, so there are fewer frames than bytes
pub front_fits : (s after : State) (sink sink' : SinkState) (held rest : List ℕ) (a b : ℕ) → AnswersFront s after sink sink' held rest a b
    → b + length rest ≤ a + length held
front_fits s after sink sink' held rest a b p =
    omega (arith, p.counts, cut_length held rest p.frames p.answers.cut)

pub less_is_held : (s after : State) (sink sink' : SinkState) (held rest : List ℕ) (index : ℕ) → AnswersFront s after sink sink' held rest index (index + 1)
    → length rest < length held
less_is_held s after sink sink' held rest index p = omega (arith, front_fits s after sink sink' held rest index (index + 1) p)

-- the number of the next frame has room too
pub next_fits : (s m after : State) (sink mid_sink sink' : SinkState) (held mid rest : List ℕ) (first index : ℕ)
    → AnswersFront s m sink mid_sink held mid first index → AnswersFront m after mid_sink sink' mid rest index (index + 1) → first + length held < 2 ^ 64
    → Fits w64 (index + 1)
next_fits s m after sink mid_sink sink' held mid rest first index p q fits =
    record { fits = omega (arith, front_fits s m sink mid_sink held mid first index p, front_fits m after mid_sink sink' mid rest index (index + 1) q) }

pub stops_then : (s m after : State) (sink mid_sink sink' : SinkState) (held rest : List ℕ) (first index : ℕ) (e : SessionError)
    → AnswersFront s m sink mid_sink held rest first index → StopsNext m after mid_sink sink' rest index e → StopsWithin s after sink sink' held first e
stops_then s m after sink mid_sink sink' held rest first index e front stops = record {
  before = m;
  sink_before = mid_sink;
  rest = rest;
  index = index;
  front = front;
  stops = stops;
}
