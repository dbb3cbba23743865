-- Turns of a session: none, one frame, and one turn after another.
use Rattle.std.proofs.Common.{◌≡◌, ℕ, ◌+◌, ◌<◌, arith, Bool, true, false, inl, inr, Option, Some, None, List, [], ◌∷◌, ◌++◌, length, sym, ap, subst, refl, ◌∙◌, append_assoc, append-nil}
use Rattle.std.specs.Prelude.{◌⊎◌, ◌&&◌, not, IfSome}
use Rattle.std.specs.List.{AllByRecursion}
use Rattle.std.specs.Option.{unwrap_or}
use Rattle.std.proofs.lemmas.Bool.{true≢false}
use Rattle.std.proofs.lemmas.Option.{none-some}
use Rattle.std.proofs.lemmas.Grind.{flat_map-append}
use Rattle.std.proofs.lemmas.List.{length-append}
use Rattle.frame_fields.specs.Frames.{IsFrames, IsFirstFrame, IsIncomplete}
use Rattle.request_frames.specs.Requests.{RequestValue, IsRequest}
use Rattle.frame_fields.proofs.FramesCut.{first_not_incomplete, incomplete_is_not_refused}
use Rattle.request_frames.proofs.OneOutcome.{one_request}
use Rattle.answering.specs.Responding.{sent}
use Rattle.broker_state.specs.declared.place.Place.{Place}
use Rattle.broker_state.specs.State.{State}
use Rattle.broker_node.specs.Answers.{RespondsTo}
use Rattle.broker_node.specs.Effects.{is_dear}
use Rattle.fetch_waits.specs.Waiting.{body_waits}
use Rattle.sessions.specs.declared.replying.NextError.TheVariants as next
use Rattle.sessions.specs.declared.session.Stop.{Stop}
use Rattle.sessions.specs.declared.session.Stop.TheVariants.{Short, Full, Dear, Waits as Waiting, Over as Stopped}
use Rattle.sessions.specs.Turns.{Exchange, SessionState, HasFirst, InTurn, InTime, IsOwedBelow, IsDear, OnlyLastIsDear, LastIsDear, StopsBehindDear, StopsFirst, Times, WaitsFirst, frames_of, is_over, replied}
use Rattle.sessions.specs.Steps.{Turn, TurnsUntil, StopsTurn, AnswersDear, AnswersFrame, AnswersNext, FrameWaits, IsLeftOff, WaitsNext, stop_place, waiting_for}
use Rattle.sessions.proofs.Frames.{all_append, no_frames, one_cut, cut_append, cut_length}

-- ---- one frame

-- what was handled answers the frame
pub frame_answered : (dear may_wait : Bool) (s after : State) (frame out out' : List ℕ) (q : RequestValue)
    → IsRequest frame q → (may_wait ≡ true → body_waits s q.body ≡ false) → RespondsTo s q out out' after → dear ≡ is_dear q.body → AnswersFrame dear may_wait s after frame out out'
frame_answered dear may_wait s after frame out out' q reads in_time h is = record {
  reply = sent h.response;
  answers = record { request = q; response = h.response; reads = reads; replies = h.replies; sends = refl };
  dear_is = sym is;
  in_time = in_time;
  appends = h.appends;
}

pub first_answered : (dear may_wait : Bool) (s after : State) (frame held rest left out out' : List ℕ) → rest ≡ left → IsFirstFrame frame held left → AnswersFrame dear may_wait s after frame out out'
    → AnswersDear dear may_wait s after held rest out out'
first_answered dear may_wait s after frame held rest left out out' same first answered = record {
  answer = record {
    exchange = record { frame = frame; reply = answered.reply };
    first = subst (IsFirstFrame frame held) (sym same) first;
    answers = answered.answers;
    in_time = answered.in_time;
    appends = answered.appends;
  };
  dear_is = answered.dear_is;
}

pub first_waits : (s : State) (frame held rest : List ℕ) (most : ℕ) → IsFirstFrame frame held rest → FrameWaits s frame most → WaitsFirst s held most
first_waits s frame held rest most first w = record {
  frame = frame;
  rest = rest;
  request = w.0;
  asked = w.2.0;
  first = first;
  reads = w.1;
  is_fetch = w.2.1;
  waits = w.2.2;
  most_is = w.2.3;
}

-- ---- one turn after another

pub turn_none : (s : State) (st : SessionState) → Turn s st [] s st
turn_none s st = record {
  cut = no_frames st.held;
  owes = sym (append-nil st.owed);
  counts = omega arith;
  in_turn = refl;
}

-- either the input has ended, or the time is over, where the frame may not wait
excused : (b ended over : Bool) → (not ended && not over ≡ true → b ≡ false) → b ≡ true → (ended ≡ true) ⊎ (over ≡ true)
excused b true over never waits = inl refl
excused b false true never waits = inr refl
excused b false false never waits = absurd (true≢false (sym waits ∙ never refl))

pub turn_first : (dear ended over : Bool) (s after : State) (old new : SessionState) → AnswersDear dear (not ended && not over) s after old.held new.held old.owed new.owed → new.answered ≡ old.answered + 1
    → new.due ≡ None → AnswersNext dear ended over s old after new
turn_first dear ended over s after old new d counts no_time =
    let a = d.answer in
    record {
      exchange = a.exchange;
      turn = record {
        cut = one_cut old.held a.exchange.frame new.held a.first;
        owes = a.appends ∙ ap (λ (x : List ℕ). old.owed ++ x) (sym (append-nil a.exchange.reply));
        counts = counts;
        in_turn = (after, a.answers, refl);
      };
      in_time = (after, a.answers, excused (body_waits s a.answers.request.body) ended over a.in_time, refl);
      is = (a.answers.request, a.answers.reads, d.dear_is);
      no_time = no_time;
    }

pub waits_next : (clock : ℕ) (ended : Bool) (s after : State) (old new : SessionState) (most : ℕ) → (not ended && not (is_over clock old.due)) ≡ true → after ≡ s → WaitsFirst s old.held most → 0 < most
    → new ≡ waiting_for clock old most → WaitsNext clock ended s old after new most
waits_next clock ended s after old new most may same waits some is = record {
  same = same;
  waits = waits;
  some = some;
  not_ended = (both ended (is_over clock old.due) may).0;
  not_over = (both ended (is_over clock old.due) may).1;
  is = is;
} where
  both : (a b : Bool) → (not a && not b) ≡ true → (a ≡ false) × (b ≡ false)
  both false false is = (refl, refl)
  both true b is = absurd (true≢false (sym is))
  both false true is = absurd (true≢false (sym is))

pub frames_append : (es fs : List Exchange) → frames_of (es ++ fs) ≡ frames_of es ++ frames_of fs
frames_append [] fs = refl
frames_append (e ∷ es) fs = ap (λ (x : List (List ℕ)). e.frame ∷ x) (frames_append es fs)

pub replied_append : (es fs : List Exchange) → replied (es ++ fs) ≡ replied es ++ replied fs
replied_append es fs = flat_map-append (λ (e : Exchange). e.reply) es fs

pub in_turn_append : (s m after : State) (es fs : List Exchange) → InTurn s es m → InTurn m fs after → InTurn s (es ++ fs) after
in_turn_append s m after [] fs a b = subst (λ x. InTurn x fs after) (sym a) b
in_turn_append s m after (e ∷ es) fs a b = (a.0, a.1, in_turn_append a.0 m after es fs a.2 b)

pub exchanges_append : (held mid rest : List ℕ) (es fs : List Exchange) → IsFrames held (frames_of es) mid → IsFrames mid (frames_of fs) rest → IsFrames held (frames_of (es ++ fs)) rest
exchanges_append held mid rest es fs a b = subst (λ x. IsFrames held x rest) (sym (frames_append es fs)) (cut_append held mid rest (frames_of es) (frames_of fs) a b)

pub turn_then : (s m after : State) (a b c : SessionState) (es fs : List Exchange) → Turn s a es m b → Turn m b fs after c → Turn s a (es ++ fs) after c
turn_then s m after a b c es fs p q = record {
  cut = exchanges_append a.held b.held c.held es fs p.cut q.cut;
  owes = q.owes ∙ ap (λ (x : List ℕ). x ++ replied fs) p.owes ∙ append_assoc a.owed (replied es) (replied fs) ∙ ap (λ (x : List ℕ). a.owed ++ x) (sym (replied_append es fs));
  counts = omega (arith, p.counts, q.counts, length-append es fs);
  in_turn = in_turn_append s m after es fs p.in_turn q.in_turn;
}

-- ---- a loop of them

below_then : (most : ℕ) (owed : List ℕ) (es : List Exchange) (e : Exchange) → IsOwedBelow most owed es → length (owed ++ replied es) < most → IsOwedBelow most owed (es ++ e ∷ [])
below_then most owed [] e below less = (subst (λ (x : List ℕ). length x < most) (append-nil owed) less, tt)
below_then most owed (f ∷ es) e below less = (
  below.0,
  below_then most (owed ++ f.reply) es e below.1 (subst (λ (x : List ℕ). length x < most) (sym (append_assoc owed f.reply (replied es))) less),
)

-- the frames before were answered in time, and so is one more
in_time_then : (ended over next : Bool) (s m after : State) (es : List Exchange) (e : Exchange) → InTime ended over s es m → InTime ended next m (e ∷ []) after
    → ((es ≡ []) × (next ≡ over)) ⊎ ((0 < length es) × (next ≡ false)) → InTime ended over s (es ++ e ∷ []) after
in_time_then ended over next s m after [] e a b (inl first) =
    subst (λ (x : State). InTime ended over x (e ∷ []) after) (sym a) (subst (λ (x : Bool). InTime ended x m (e ∷ []) after) first.1 b)
in_time_then ended over next s m after [] e a b (inr later) = absurd (omega (arith, later.0))
in_time_then ended over next s m after (f ∷ es) e a b (inl first) = absurd (omega (arith, ap length first.0))
in_time_then ended over next s m after (f ∷ []) e a b (inr later) =
    (a.0, a.1, a.2, in_time_then ended false next a.0 m after [] e a.3 b (inl (refl, later.1)))
in_time_then ended over next s m after (f ∷ g ∷ es) e a b (inr later) =
    (a.0, a.1, a.2, in_time_then ended false next a.0 m after (g ∷ es) e a.3 b (inr (omega arith, later.1)))

-- These frames were answered, each while fewer bytes were owed than may be, and in time.
pub record Answering (most clock : ℕ) (ended : Bool) (s : State) (old : SessionState) (now : State) (st : SessionState) (exchanges : List Exchange) : Type 0 where
  pub turn : Turn s old exchanges now st
  pub below : IsOwedBelow most old.owed exchanges
  pub in_time : InTime ended (is_over clock old.due) s exchanges now
  pub due : ((exchanges ≡ []) × (st.due ≡ old.due)) ⊎ ((0 < length exchanges) × (st.due ≡ None))

-- Frames were answered so far, none of them a dear one.
pub record Turning (most clock : ℕ) (ended : Bool) (s : State) (old : SessionState) (now : State) (st : SessionState) : Type 0 where
  pub exchanges : List Exchange
  pub so_far : Answering most clock ended s old now st exchanges
  pub cheap : AllByRecursion (λ e. IsDear false e.frame) exchanges

pub turning_none : (most clock : ℕ) (ended : Bool) (s : State) (st : SessionState) → Turning most clock ended s st s st
turning_none most clock ended s st = record {
  exchanges = [];
  so_far = record { turn = turn_none s st; below = tt; in_time = refl; due = inl (refl, refl) };
  cheap = tt;
}

answering_then : (most clock : ℕ) (dear ended : Bool) (s m after : State) (a b c : SessionState) (es : List Exchange) → Answering most clock ended s a m b es → length b.owed < most
    → (q : AnswersNext dear ended (is_over clock b.due) m b after c) → Answering most clock ended s a after c (es ++ q.exchange ∷ [])
answering_then most clock dear ended s m after a b c es p less q = record {
  turn = turn_then s m after a b c es (q.exchange ∷ []) p.turn q.turn;
  below = below_then most a.owed es q.exchange p.below (subst (λ (x : List ℕ). length x < most) p.turn.owes less);
  in_time = in_time_then ended (is_over clock a.due) (is_over clock b.due) s m after es q.exchange p.in_time q.in_time (over p.due);
  due = inr (omega (arith, length-append es (q.exchange ∷ [])), q.no_time);
} where
  over : ((es ≡ []) × (b.due ≡ a.due)) ⊎ ((0 < length es) × (b.due ≡ None))
      → ((es ≡ []) × (is_over clock b.due ≡ is_over clock a.due)) ⊎ ((0 < length es) × (is_over clock b.due ≡ false))
  over (inl first) = inl (first.0, ap (is_over clock) first.1)
  over (inr later) = inr (later.0, ap (is_over clock) later.1)

-- one more, which isn't dear
pub turning_then : (most clock : ℕ) (dear ended : Bool) (s m after : State) (a b c : SessionState) → Turning most clock ended s a m b → length b.owed < most
    → AnswersNext dear ended (is_over clock b.due) m b after c → dear ≡ false → Turning most clock ended s a after c
turning_then most clock dear ended s m after a b c p less q is = record {
  exchanges = p.exchanges ++ q.exchange ∷ [];
  so_far = answering_then most clock dear ended s m after a b c p.exchanges p.so_far less q;
  cheap = all_append (λ (e : Exchange). IsDear false e.frame) p.exchanges (q.exchange ∷ []) p.cheap (subst (λ (x : Bool). IsDear x q.exchange.frame) is q.is, tt);
}

pub less_is_held : (dear ended over : Bool) (s after : State) (old new : SessionState) → AnswersNext dear ended over s old after new → length new.held < length old.held
less_is_held dear ended over s after old new a = omega (arith, cut_length old.held new.held (frames_of (a.exchange ∷ [])) a.turn.cut)

-- ---- dear frames

only_cheap : (es : List Exchange) → AllByRecursion (λ e. IsDear false e.frame) es → OnlyLastIsDear es
only_cheap [] all = tt
only_cheap (e ∷ []) all = tt
only_cheap (e ∷ f ∷ es) all = (all.0, only_cheap (f ∷ es) all.1)

only_last : (es : List Exchange) (e : Exchange) → AllByRecursion (λ e. IsDear false e.frame) es → OnlyLastIsDear (es ++ e ∷ [])
only_last [] e all = tt
only_last (f ∷ []) e all = (all.0, tt)
only_last (f ∷ g ∷ es) e all = (all.0, only_last (g ∷ es) e all.1)

last_is : (es : List Exchange) (e : Exchange) → IsDear true e.frame → LastIsDear (es ++ e ∷ [])
last_is [] e dear = dear
last_is (f ∷ []) e dear = dear
last_is (f ∷ g ∷ es) e dear = last_is (g ∷ es) e dear

-- a frame isn't both
one_kind : (frame : List ℕ) → IsDear true frame → IsDear false frame → ⊥
one_kind frame dear cheap = true≢false (sym dear.2 ∙ ap (λ (q : RequestValue). is_dear q.body) (one_request frame dear.0 cheap.0 dear.1 cheap.1) ∙ cheap.2)

none_dear : (es : List Exchange) → AllByRecursion (λ e. IsDear false e.frame) es → LastIsDear es → ⊥
none_dear [] all last = last
none_dear (e ∷ []) all last = one_kind e.frame last all.0
none_dear (e ∷ f ∷ es) all last = none_dear (f ∷ es) all.1 last

-- ---- where a turn stops

none_some : {P : Type 0} (until : ℕ) (due : Option ℕ) → due ≡ None → due ≡ Some until → P
none_some until due none some = absurd (none-some until (sym none ∙ some))

-- no time was set where the first frame doesn't wait
times_stay : (clock : ℕ) (s after : State) (old new : SessionState) (es : List Exchange) → ((es ≡ []) × (new.due ≡ old.due)) ⊎ ((0 < length es) × (new.due ≡ None)) → (limit : ℕ) (owing : List ℕ) → Times clock limit old es after owing new
times_stay clock s after old new es (inl first) limit owing = record {
  stays = λ none until is. first.1 ∙ is;
  begins = λ until is. inl (first.0, sym first.1 ∙ is);
}
times_stay clock s after old new es (inr later) limit owing = record {
  stays = λ none until is. absurd (omega (arith, later.0, ap length none));
  begins = λ until is. none_some until new.due later.1 is;
}

until : (most clock : ℕ) (ended : Bool) (s after : State) (old new : SessionState) (stop : Stop) (es : List Exchange) → Answering most clock ended s old after new es → OnlyLastIsDear es
    → StopsTurn most clock ended after es new stop → (StopsBehindDear most es new → stop ≡ Dear) → TurnsUntil most clock ended s old after new stop
until most clock ended s after old new stop es t dear stops again = record {
  exchanges = es;
  turn = t.turn;
  below = t.below;
  in_time = t.in_time;
  times = times_stay clock s after old new es t.due most new.owed;
  dear = dear;
  stops = stops;
  again = again;
}

-- a stop that isn't behind a dear frame is one whatever was answered
stops_so : (most clock : ℕ) (ended : Bool) (after : State) (es : List Exchange) (new : SessionState) (stop : Stop) → StopsTurn most clock ended after [] new stop → StopsTurn most clock ended after es new stop
stops_so most clock ended after es new Short stops = stops
stops_so most clock ended after es new Full stops = stops
stops_so most clock ended after es new Dear stops = absurd stops.0
stops_so most clock ended after es new Waiting stops = stops
stops_so most clock ended after es new (Stopped why) stops = stops

pub turn_stops : (most clock : ℕ) (ended : Bool) (s after : State) (old new : SessionState) (stop : Stop) → Turning most clock ended s old after new → StopsTurn most clock ended after [] new stop
    → TurnsUntil most clock ended s old after new stop
turn_stops most clock ended s after old new stop t stops =
    until most clock ended s after old new stop t.exchanges t.so_far (only_cheap t.exchanges t.cheap) (stops_so most clock ended after t.exchanges new stop stops)
    (λ behind. absurd (none_dear t.exchanges t.cheap behind.0))

-- where it stops as no complete frame is held
pub turn_short : (most clock : ℕ) (ended : Bool) (s mid after : State) (old st new : SessionState) → Turning most clock ended s old mid st → (after ≡ mid) × (new ≡ st) × IsIncomplete new.held
    → TurnsUntil most clock ended s old after new Short
turn_short most clock ended s mid after old st new t short =
    turn_stops most clock ended s after old new Short
    (subst (λ (x : State). Turning most clock ended s old x new) (sym short.0) (subst (Turning most clock ended s old mid) (sym short.1) t)) short.2

left_off : (most clock : ℕ) (ended : Bool) (after : State) (es : List Exchange) (new : SessionState) (stop : Stop) → LastIsDear es → IsLeftOff most new stop → StopsTurn most clock ended after es new stop
left_off most clock ended after es new Short last stops = stops
left_off most clock ended after es new Full last stops = stops
left_off most clock ended after es new Dear last stops = (last, stops.0, stops.1)
left_off most clock ended after es new Waiting last stops = absurd stops
left_off most clock ended after es new (Stopped why) last stops = absurd stops

first_and_short : (held : List ℕ) → HasFirst held → IsIncomplete held → ⊥
first_and_short held (inl first) short = first_not_incomplete first.0 held first.1 first.2 short
first_and_short held (inr fault) short = incomplete_is_not_refused held fault.0 short fault.1

-- where another is there, and so much isn't owed, it stops as one was dear
off_again : (most : ℕ) (es : List Exchange) (new : SessionState) (stop : Stop) → IsLeftOff most new stop → StopsBehindDear most es new → stop ≡ Dear
off_again most es new Short off behind = absurd (first_and_short new.held behind.1 off)
off_again most es new Full off behind = absurd (omega (arith, off, behind.2))
off_again most es new Dear off behind = refl
off_again most es new Waiting off behind = absurd off
off_again most es new (Stopped why) off behind = absurd off

-- where a turn stops behind a frame that is dear
pub turn_leaves_off : (most clock : ℕ) (dear ended : Bool) (s m after : State) (a b c : SessionState) (stop : Stop) → Turning most clock ended s a m b → length b.owed < most
    → AnswersNext dear ended (is_over clock b.due) m b after c → dear ≡ true → IsLeftOff most c stop → TurnsUntil most clock ended s a after c stop
turn_leaves_off most clock dear ended s m after a b c stop p less q is off =
    let es = p.exchanges ++ q.exchange ∷ [] in
    let last : IsDear true q.exchange.frame = subst (λ (x : Bool). IsDear x q.exchange.frame) is q.is in
    until most clock ended s after a c stop es (answering_then most clock dear ended s m after a b c p.exchanges p.so_far less q) (only_last p.exchanges q.exchange p.cheap)
    (left_off most clock ended after es c stop (last_is p.exchanges q.exchange last) off) (off_again most es c stop off)

-- the time of a frame that waits: as it was, or from now on
is_later : (clock most : ℕ) (due : Option ℕ) → 0 < most → is_over clock due ≡ false → clock < unwrap_or due (clock + most)
is_later clock most None some later = omega (arith, some)
is_later clock most (Some until) some later = grind (arith, later)

times_begin : (limit clock most : ℕ) (after : State) (old mid : SessionState) (es : List Exchange) (d d' : Option ℕ) → mid.due ≡ d → old.due ≡ d' → WaitsFirst after mid.held most → length mid.owed < limit
    → ((es ≡ []) × (mid.due ≡ old.due)) ⊎ ((0 < length es) × (mid.due ≡ None)) → Times clock limit old es after mid.owed (waiting_for clock mid most)
times_begin limit clock most after old mid es d (Some until') is was waits less (inl first) = record {
  stays = λ none until has. ap (λ (x : Option ℕ). Some (unwrap_or x (clock + most))) (first.1 ∙ has);
  begins = λ until has. inl (first.0, was ∙ sym (ap (λ (x : Option ℕ). Some (unwrap_or x (clock + most))) (first.1 ∙ was)) ∙ has);
}
times_begin limit clock most after old mid es d None is was waits less (inl first) = record {
  stays = λ none until has. none_some until old.due was has;
  begins = λ until has. inr (most, waits, less, ap (λ (o : Option ℕ). unwrap_or o 0) (sym has ∙ ap (λ (x : Option ℕ). Some (unwrap_or x (clock + most))) (first.1 ∙ was)));
}
times_begin limit clock most after old mid es d d' is was waits less (inr later) = record {
  stays = λ none until has. absurd (omega (arith, later.0, ap length none));
  begins = λ until has. inr (most, waits, less, ap (λ (o : Option ℕ). unwrap_or o 0) (sym has ∙ ap (λ (x : Option ℕ). Some (unwrap_or x (clock + most))) later.1));
}

-- what the session that waits is, beside its time
turn_waits : (clock most : ℕ) (s after : State) (old mid : SessionState) (es : List Exchange) → Turn s old es after mid → Turn s old es after (waiting_for clock mid most)
turn_waits clock most s after old mid es t = record { cut = t.cut; owes = t.owes; counts = t.counts; in_turn = t.in_turn }

turn_waiting : (most_owed clock most : ℕ) (ended : Bool) (s mid_state after : State) (old mid new : SessionState) → Turning most_owed clock ended s old mid_state mid → length mid.owed < most_owed
    → WaitsNext clock ended mid_state mid after new most → TurnsUntil most_owed clock ended s old after new Waiting
turn_waiting most_owed clock most ended s mid_state after old mid new t less w =
    subst (λ (x : State). TurnsUntil most_owed clock ended s old x new Waiting) (sym w.same)
    (subst (λ (x : SessionState). TurnsUntil most_owed clock ended s old mid_state x Waiting) (sym w.is) (record {
      exchanges = t.exchanges;
      turn = turn_waits clock most s mid_state old mid t.exchanges t.so_far.turn;
      below = t.so_far.below;
      in_time = t.so_far.in_time;
      times = times_begin most_owed clock most mid_state old mid t.exchanges mid.due old.due refl refl w.waits less t.so_far.due;
      dear = only_cheap t.exchanges t.cheap;
      stops = (
        w.not_ended,
        record {
          most = most;
          until = unwrap_or mid.due (clock + most);
          waits = w.waits;
          due_is = refl;
          later = is_later clock most mid.due w.some w.not_over;
        },
      );
      again = λ behind. absurd (none_dear t.exchanges t.cheap behind.0);
    }))

abbrev is_waiting : Stop → Bool
is_waiting Waiting = true
is_waiting stop = false

not_both : Waiting ≡ Dear → ⊥
not_both same = true≢false (ap is_waiting same)

-- there is no memory to wait
turn_lacks_memory : (most_owed clock most : ℕ) (ended : Bool) (s mid_state after : State) (old mid new : SessionState) → Turning most_owed clock ended s old mid_state mid → length mid.owed < most_owed
    → WaitsNext clock ended mid_state mid after new most → TurnsUntil most_owed clock ended s old after new (Stopped next.OutOfMemory)
turn_lacks_memory most_owed clock most ended s mid_state after old mid new t less w =
    let whole = turn_waiting most_owed clock most ended s mid_state after old mid new t less w in
    let held : new.held ≡ mid.held = ap (λ (x : SessionState). x.held) w.is in
    record {
      exchanges = whole.exchanges;
      turn = whole.turn;
      below = whole.below;
      in_time = whole.in_time;
      times = whole.times;
      dear = whole.dear;
      stops = inl (subst (λ (x : List ℕ). StopsFirst x next.OutOfMemory) (sym held) (w.waits.frame, w.waits.rest, w.waits.request, w.waits.first, w.waits.reads));
      again = λ behind. absurd (not_both (whole.again behind));
    }

-- where a turn stops that comes to a frame that waits
pub turn_ends : (most_owed clock most : ℕ) (ended : Bool) (s mid_state after : State) (old mid new : SessionState) (stop : Stop) → Turning most_owed clock ended s old mid_state mid → length mid.owed < most_owed
    → WaitsNext clock ended mid_state mid after new most → (stop ≡ Waiting) ⊎ (stop ≡ Stopped next.OutOfMemory) → TurnsUntil most_owed clock ended s old after new stop
turn_ends most_owed clock most ended s mid_state after old mid new stop t less w (inl is) =
    subst (TurnsUntil most_owed clock ended s old after new) (sym is) (turn_waiting most_owed clock most ended s mid_state after old mid new t less w)
turn_ends most_owed clock most ended s mid_state after old mid new stop t less w (inr is) =
    subst (TurnsUntil most_owed clock ended s old after new) (sym is) (turn_lacks_memory most_owed clock most ended s mid_state after old mid new t less w)

-- one that waits, or for which memory lacks, isn't put off
pub not_put_off : (P : Place → Type 0) (stop : Stop) → (stop ≡ Waiting) ⊎ (stop ≡ Stopped next.OutOfMemory) → IfSome (stop_place stop) P
not_put_off P stop (inl is) = subst (λ (s : Stop). IfSome (stop_place s) P) (sym is) tt
not_put_off P stop (inr is) = subst (λ (s : Stop). IfSome (stop_place s) P) (sym is) tt

-- nor is one behind a frame that is dear
pub none_put_off : (P : Place → Type 0) (stop : Stop) → stop_place stop ≡ None → IfSome (stop_place stop) P
none_put_off P stop none = subst (λ (o : Option Place). IfSome o P) (sym none) tt
