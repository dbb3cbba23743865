-- Sessions that stop before the end of their input.
use Rattle.std.proofs.Common.{◌≡◌, ◌<◌, ℕ, List, [], Option, length, inl, inr, true, sym, subst, ◌∙◌, arith}
use Rattle.std.specs.Prelude.{◌≢◌}
use Rattle.std.proofs.lemmas.List.{nil_from_length}
use Rattle.std.specs.Io.KnownBytes.{Keeps}
use Rattle.std.proofs.KnownBytes.{Appends-kept}
use Rattle.streams.specs.State.{SourceState, SinkState}
use Rattle.broker_core.specs.declared.session.SessionError.{SessionError}
use Rattle.broker_core.specs.declared.session.SessionError.TheVariants.{Frame, Read, Write, OutOfMemory}
use Rattle.broker_state.specs.State.{State}
use Rattle.broker_core.specs.Below.{Answered}
use Rattle.broker_core.specs.declared.session.Ended.{Ended}
use Rattle.broker_core.specs.Sessions.{Moves, Session, EndsAs, CutReply, StopsAs}
use Rattle.subcommands.specs.Answering.{AnswersFrom, RefusesFrom}
use Rattle.subcommands.specs.Status.{stop_status}

-- a session whose status is 1 has refused a frame
pub stopped : (s after : State) (source source' : SourceState) (sink sink' : SinkState) (taken : Option (List ℕ)) (why : SessionError)
    → StopsAs s source source' sink sink' after why → Keeps sink'.taken taken → stop_status why ≡ 1
    → RefusesFrom s source.left source'.left sink.taken taken after
stopped s after source source' sink sink' taken (Frame index why) stops keeps is = record {
  input = stops.0.input;
  output = stops.0.output;
  frames = stops.0.frames;
  rest = stops.0.rest;
  reads = stops.0.moves.leaves;
  appends = Appends-kept sink.taken sink'.taken taken stops.0.output stops.0.moves.takes keeps;
  answers = stops.0.answers;
  stops = inr (why, stops.2);
}
stopped s after source source' sink sink' taken Read stops keeps is = absurd (omega arith)
stopped s after source source' sink sink' taken Write stops keeps is = absurd (omega arith)
stopped s after source source' sink sink' taken OutOfMemory stops keeps is = absurd (omega arith)

-- ---- a sink that is flushed holds what it held

abbrev kept_moves : (source source' : SourceState) (sink served sink' : SinkState) (input output : List ℕ)
    → Moves source source' sink served input output → Keeps served.taken sink'.taken → Moves source source' sink sink' input output
kept_moves source source' sink served sink' input output moves keeps = record {
  leaves = moves.leaves;
  takes = Appends-kept sink.taken served.taken sink'.taken output moves.takes keeps;
}

abbrev kept_session : (s after : State) (source source' : SourceState) (sink served sink' : SinkState)
    → Session s source source' sink served after → Keeps served.taken sink'.taken → Session s source source' sink sink' after
kept_session s after source source' sink served sink' session keeps = record {
  input = session.input;
  output = session.output;
  frames = session.frames;
  rest = session.rest;
  moves = kept_moves source source' sink served sink' session.input session.output session.moves keeps;
  answers = session.answers;
}

-- a session that came to its end, and a sink that was flushed behind it
pub kept_end : (s after : State) (source source' : SourceState) (sink served sink' : SinkState) (ended : Ended)
    → EndsAs s source source' sink served after ended → Keeps served.taken sink'.taken → EndsAs s source source' sink sink' after ended
kept_end s after source source' sink served sink' ended ends keeps = record {
  session = kept_session s after source source' sink served sink' ends.session keeps;
  at_end = ends.at_end;
  has_not_failed = ends.has_not_failed;
  incomplete = ends.incomplete;
  frames = ends.frames;
  rest = ends.rest;
}

abbrev kept_cut : (s after : State) (source source' : SourceState) (sink served sink' : SinkState)
    → CutReply s source source' sink served after → Keeps served.taken sink'.taken → CutReply s source source' sink sink' after
kept_cut s after source source' sink served sink' cut keeps = record {
  input = cut.input;
  output = cut.output;
  frames = cut.frames;
  frame = cut.frame;
  rest = cut.rest;
  before = cut.before;
  front = cut.front;
  lost = cut.lost;
  moves = kept_moves source source' sink served sink' cut.input _ cut.moves keeps;
  cut = cut.cut;
  answers = cut.answers;
  answers_last = cut.answers_last;
  loses = cut.loses;
}

-- a session that stopped before, and a sink that was flushed behind it, unless it had failed
pub kept_stop : (s after : State) (source source' : SourceState) (sink served sink' : SinkState) (why : SessionError)
    → StopsAs s source source' sink served after why → Keeps served.taken sink'.taken
    → (served.failed ≡ true → sink'.failed ≡ true) → StopsAs s source source' sink sink' after why
kept_stop s after source source' sink served sink' (Frame index why) stops keeps fails =
    (kept_session s after source source' sink served sink' stops.0 keeps, stops.1, stops.2)
kept_stop s after source source' sink served sink' Read stops keeps fails =
    (kept_session s after source source' sink served sink' stops.0 keeps, stops.1, stops.2)
kept_stop s after source source' sink served sink' Write stops keeps fails =
    (kept_cut s after source source' sink served sink' stops.0 keeps, fails stops.1)
kept_stop s after source source' sink served sink' OutOfMemory stops keeps fails =
    (kept_session s after source source' sink served sink' stops.0 keeps, stops.1, stops.2)

-- ---- the end of the input

-- with nothing left of it, all was answered
pub answers_all : (s after : State) (source source' : SourceState) (sink served sink' : SinkState) (ended : Ended)
    → EndsAs s source source' sink served after ended → Keeps served.taken sink'.taken → ended.rest ≡ 0
    → AnswersFrom s source.left source'.left sink.taken sink'.taken after
answers_all s after source source' sink served sink' ended ends keeps none =
    let session = ends.session in
    let nothing : session.rest ≡ [] = nil_from_length session.rest (sym ends.rest ∙ none) in
    record {
      input = session.input;
      output = session.output;
      frames = session.frames;
      reads = session.moves.leaves;
      at_end = ends.at_end;
      appends = Appends-kept sink.taken served.taken sink'.taken session.output session.moves.takes keeps;
      answers = subst (λ (r : List ℕ). Answered s session.input session.output after session.frames r) nothing session.answers;
    }

-- within a frame, that frame is refused
pub refuses_inside : (s after : State) (source source' : SourceState) (sink served sink' : SinkState) (ended : Ended)
    → EndsAs s source source' sink served after ended → Keeps served.taken sink'.taken → ended.rest ≢ 0
    → RefusesFrom s source.left source'.left sink.taken sink'.taken after
refuses_inside s after source source' sink served sink' ended ends keeps some =
    let session = ends.session in
    let more : 0 < length session.rest = omega (arith, ends.rest, some) in
    record {
      input = session.input;
      output = session.output;
      frames = session.frames;
      rest = session.rest;
      reads = session.moves.leaves;
      appends = Appends-kept sink.taken served.taken sink'.taken session.output session.moves.takes keeps;
      answers = session.answers;
      stops = inl (ends.at_end, ends.incomplete, more);
    }
