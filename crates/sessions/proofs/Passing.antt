-- A visit: what came, and a turn; and what is sent.
use Rattle.std.proofs.Common.{◌≡◌, ℕ, zero, suc, ◌-◌, ◌<◌, ◌≤◌, arith, Bool, true, false, List, [], ◌++◌, length, sym, ap, subst, refl, ◌∙◌, append_assoc, append-nil, Option, Some, inl, inr}
use Rattle.std.specs.Prelude.{◌==◌, ◌⊎◌, ◌+◌}
use Rattle.std.proofs.lemmas.Bool.{eqb-true}
use Rattle.std.proofs.lemmas.List.{length-append}
use Rattle.std.specs.Io.KnownBytes.{Keeps, IsAtEnd}
use Rattle.std.proofs.KnownBytes.{Consumes-nil, Consumes-kept, Appends-nil, Appends-trans, Appends-kept}
use Rattle.broker_state.specs.State.{State}
use Rattle.frame_fields.specs.Frames.{IsFrames}
use Rattle.sessions.specs.declared.session.Stop.{Stop}
use Rattle.sessions.specs.declared.session.Stop.TheVariants.{Short, Full, Dear as Costly, Waits as Waiting, Over as Stopped}
use Rattle.sessions.specs.declared.visiting.TheConstants.{MOST_OWED, READ_PIECE}
use Rattle.sessions.specs.declared.visiting.Seat.{Seat}
use Rattle.sessions.specs.declared.visiting.Visit.{Visit}
use Rattle.sessions.specs.declared.visiting.Then.{Then}
use Rattle.sessions.specs.declared.visiting.Then.TheVariants.{Again, Dear, Idle, PutOff, Over}
use Rattle.sessions.specs.declared.visiting.Why.{Why}
use Rattle.sessions.specs.declared.visiting.Why.TheVariants.{End, Read, Write, Frame, OutOfMemory}
use Rattle.sessions.specs.Turns.{Exchange, SessionState, IsOwedBelow, InTime, Times, WaitsFirst, frames_of, is_over, replied}
use Rattle.sessions.specs.Visits.{Moment, Moved, Moves, WantsMore, IsDone, IsServed, Serves, GoesOn, IsOver, IsMade, HasRead, has_ended}
use Rattle.sessions.specs.Steps.{Receives, TurnsUntil, StopsTurn, ComesIn, HasGot, FailsToRead, GoesOut, Writes, IsNoRead, VisitsSession}
use Rattle.sessions.proofs.Turning.{turn_none}
use Rattle.sessions.proofs.Going.{none_there}

never : false ≡ true → ⊥
never is = grind (arith, is)

-- ---- a read

pub received_nothing : (st : SessionState) (left left' : Option (List ℕ)) → Keeps left left' → Receives st st left left' 0
received_nothing st left left' keeps = record {
  piece = [];
  count_is = refl;
  leaves = Consumes-kept left left left' [] (Consumes-nil left) keeps;
  holds = sym (append-nil st.held);
  owes = refl;
  counts = refl;
  waits = refl;
}

-- no read was made, or one that is to be made again, or that would have waited
pub nothing_comes : (seat seat' : Seat) (old new : SessionState) (left left' : Option (List ℕ)) → new ≡ old → Keeps left left'
    → (seat'.at_end ≡ true → seat.at_end ≡ true) → ComesIn seat seat' old new left left'
nothing_comes seat seat' old new left left' same keeps ends = record {
  count = 0;
  receives = subst (λ st. Receives old st left left' 0) (sym same) (received_nothing old left left' keeps);
  piece = omega arith;
  wanted = λ some. absurd (omega (arith, some));
  read_waits = λ off. inr refl;
  ends = λ on. inl (ends on);
}

pub no_change : (seat : Seat) (st : SessionState) (left : Option (List ℕ)) → ComesIn seat seat st st left left
no_change seat st left = record {
  count = 0;
  receives = record { piece = []; count_is = refl; leaves = Consumes-nil left; holds = sym (append-nil st.held); owes = refl; counts = refl; waits = refl };
  piece = omega arith;
  wanted = λ some. absurd (omega (arith, some));
  read_waits = λ off. inr refl;
  ends = λ on. inl on;
}

-- a read gave so many bytes, none only at the end
pub something_comes : (seat : Seat) (ended : Bool) (old new : SessionState) (left left' : Option (List ℕ)) (count size : ℕ) → Receives old new left left' count
    → count ≤ size → size ≡ READ_PIECE → (0 < size → count ≡ 0 → IsAtEnd left') → WantsMore old × ((seat.may_read ≡ true) × (seat.at_end ≡ false)) → ended ≡ (count == 0)
    → ComesIn seat (record { may_read = seat.may_read; may_write = seat.may_write; at_end = ended; is_closing = seat.is_closing }) old new left left'
something_comes seat ended old new left left' count size receives within whole none wanted is = record {
  count = count;
  receives = receives;
  piece = omega (arith, within, whole);
  wanted = λ some. (wanted.0, wanted.1.0, wanted.1.1);
  read_waits = λ off. inl off;
  ends = λ on. let zero = eqb-true count 0 (sym is ∙ on) in inr (zero, none (omega (arith, whole)) zero);
}

-- none is due
pub not_due : (seat : Seat) (old new : SessionState) → seat.at_end ≡ true → seat.at_end ≡ false → HasGot old seat new
not_due seat old new ended still = absurd (never (sym still ∙ ended))

-- a read gave so many bytes, or it was the end
pub has_got : (seat : Seat) (ended : Bool) (old new : SessionState) (left left' : Option (List ℕ)) (count : ℕ) → Receives old new left left' count → ended ≡ (count == 0)
    → HasGot old (record { may_read = seat.may_read; may_write = seat.may_write; at_end = ended; is_closing = seat.is_closing }) new
has_got seat ended old new left left' count receives is = by count is receives.count_is where
  seat' : Seat
  seat' = record { may_read = seat.may_read; may_write = seat.may_write; at_end = ended; is_closing = seat.is_closing }

  by : (n : ℕ) → ended ≡ (n == 0) → length receives.piece ≡ n → HasGot old seat' new
  by zero is none = inr (inr is)
  by (suc n) is some = inl (omega (arith, some, ap length receives.holds, length-append old.held receives.piece))

-- ---- writes

pub nothing_goes : (st : SessionState) (taken : Option (List ℕ)) → GoesOut st st taken taken
nothing_goes st taken = (0, record { front = []; count_is = refl; takes = Appends-nil taken; owes = refl; holds = refl; counts = refl; waits = refl })

pub none_sent : (old new : SessionState) (taken taken' : Option (List ℕ)) → new ≡ old → Keeps taken taken' → GoesOut old new taken taken'
none_sent old new taken taken' same keeps = (
  0,
  record {
    front = [];
    count_is = refl;
    takes = Appends-kept taken taken taken' [] (Appends-nil taken) keeps;
    owes = sym (ap (λ st. st.owed) same);
    holds = ap (λ st. st.held) same;
    counts = ap (λ st. st.answered) same;
    waits = ap (λ st. st.due) same;
  },
)

more_goes : (a b c : SessionState) (taken mid taken' : Option (List ℕ)) → GoesOut a b taken mid → GoesOut b c mid taken' → GoesOut a c taken taken'
more_goes a b c taken mid taken' p q = (
  length (p.1.front ++ q.1.front),
  record {
    front = p.1.front ++ q.1.front;
    count_is = refl;
    takes = Appends-trans taken mid taken' p.1.front q.1.front p.1.takes q.1.takes;
    owes = p.1.owes ∙ ap (λ (x : List ℕ). p.1.front ++ x) q.1.owes ∙ sym (append_assoc p.1.front q.1.front c.owed);
    holds = q.1.holds ∙ p.1.holds;
    counts = q.1.counts ∙ p.1.counts;
    waits = q.1.waits ∙ p.1.waits;
  },
)

pub nothing_written : (may : Bool) (st : SessionState) (taken : Option (List ℕ)) → Writes may may st st taken taken
unfolding nothing_goes
nothing_written may st taken = record {
  goes = nothing_goes st taken;
  only = nothing_sent;
  writes = λ on. on;
  waits = λ off. inl off;
} where
  nothing_sent : 0 < 0 → may ≡ true
  nothing_sent some = absurd (omega (arith, some))

-- one more write, which might be made, where something was owed
pub more_written : (may now may' : Bool) (a b c : SessionState) (taken mid taken' : Option (List ℕ)) → Writes may now a b taken mid → now ≡ true → 0 < length b.owed → GoesOut b c mid taken'
    → (may' ≡ false → (now ≡ false) ⊎ (c ≡ b)) → Writes may may' a c taken taken'
more_written may now may' a b c taken mid taken' w on some goes waits = record {
  goes = more_goes a b c taken mid taken' w.goes goes;
  only = λ some. w.writes on;
  writes = λ still. w.writes on;
  waits = λ off. by (waits off);
} where
  by : (now ≡ false) ⊎ (c ≡ b) → (may ≡ false) ⊎ (0 < length c.owed)
  by (inl off) = absurd (never (sym off ∙ on))
  by (inr same) = inr (subst (λ (st : SessionState). 0 < length st.owed) (sym same) some)

-- ---- a whole visit

-- why no more frames were answered
done_by : (at : Moment) (seat : Seat) (es : List Exchange) (new : SessionState) (stop : Stop) → StopsTurn MOST_OWED at.clock (has_ended seat) at.state es new stop → IsDone at seat es new
done_by at seat es new Short stopped = inl stopped
done_by at seat es new Full stopped = inr (inr (inr (inl stopped)))
done_by at seat es new Costly stopped = inr (inr (inr (inr stopped)))
done_by at seat es new Waiting stopped = inr (inr (inl stopped))
done_by at seat es new (Stopped why) stopped = inr (inl (why, stopped))

served : (at : Moment) (seat : Seat) (old new : SessionState) (moved : Moved) (left left' : Option (List ℕ)) (then : Then) → IsServed at seat moved new left left' → IsNoRead then → Serves at seat old moved new left left' then
served at seat old new moved left left' Again is clear = is
served at seat old new moved left left' Dear is clear = is
served at seat old new moved left left' Idle is clear = is
served at seat old new moved left left' (PutOff place) is clear = is
served at seat old new moved left left' (Over End) is clear = is
served at seat old new moved left left' (Over (Read k)) is clear = absurd clear
served at seat old new moved left left' (Over (Write k)) is clear = is
served at seat old new moved left left' (Over (Frame e)) is clear = is
served at seat old new moved left left' (Over OutOfMemory) is clear = inr is

-- the time of the first frame before a turn is that before the read
times_before : (clock : ℕ) (old mid new : SessionState) (es : List Exchange) (after : State) (owing : List ℕ) → mid.due ≡ old.due → Times clock MOST_OWED mid es after owing new → Times clock MOST_OWED old es after owing new
times_before clock old mid new es after owing same t = record {
  stays = λ none until was. t.stays none until (same ∙ was);
  begins = λ until is. by until (t.begins until is);
} where
  by : (until : ℕ) → ((es ≡ []) × (mid.due ≡ Some until)) ⊎ ((most : ℕ) × WaitsFirst after new.held most × (length owing < MOST_OWED) × (until ≡ clock + most))
      → ((es ≡ []) × (old.due ≡ Some until)) ⊎ ((most : ℕ) × WaitsFirst after new.held most × (length owing < MOST_OWED) × (until ≡ clock + most))
  by until (inl was) = inl (was.0, sym same ∙ was.1)
  by until (inr begins) = inr begins

no_piece : (xs : List ℕ) (count : ℕ) → length xs ≡ count → count ≡ 0 → xs ≡ []
no_piece xs count is none = none_there xs (is ∙ none)

none_came : (seat : Seat) (piece : List ℕ) (count : ℕ) → length piece ≡ count → (seat.may_read ≡ false) ⊎ (count ≡ 0) → (seat.may_read ≡ false) ⊎ (piece ≡ [])
none_came seat piece count is (inl off) = inl off
none_came seat piece count is (inr none) = inr (no_piece piece count is none)

at_the_end : (seat : Seat) (piece : List ℕ) (count : ℕ) (left' : Option (List ℕ)) → length piece ≡ count → (seat.at_end ≡ true) ⊎ (count ≡ 0) × IsAtEnd left'
    → (seat.at_end ≡ true) ⊎ (piece ≡ []) × IsAtEnd left'
at_the_end seat piece count left' is (inl was) = inl was
at_the_end seat piece count left' is (inr none) = inr (no_piece piece count is none.0, none.1)

-- what came of the read
got_piece : (old mid : SessionState) (piece : List ℕ) → mid.held ≡ old.held ++ piece → length old.held < length mid.held → 0 < length piece
got_piece old mid piece holds more = omega (arith, ap length holds, length-append old.held piece, more)

has_read : (moved : Moved) (old mid : SessionState) (seat : Seat) (then : Then) → mid.held ≡ old.held ++ moved.came → HasGot old seat mid → HasRead moved seat then
has_read moved old mid seat then holds got = by then (each got) where
  Got : Type 0
  Got = (0 < length moved.came) ⊎ ((seat.may_read ≡ false) ⊎ (seat.at_end ≡ true))

  each : HasGot old seat mid → Got
  each (inl more) = inl (got_piece old mid moved.came holds more)
  each (inr none) = inr none

  by : (then : Then) → Got → HasRead moved seat then
  by Again is = is
  by Dear is = is
  by Idle is = is
  by (PutOff place) is = is
  by (Over End) is = is
  by (Over (Read k)) is = tt
  by (Over (Write k)) is = is
  by (Over (Frame e)) is = is
  by (Over OutOfMemory) is = tt

pub visited : (clock : ℕ) (s after : State) (seat seat' : Seat) (old mid new : SessionState) (left left' : Option (List ℕ)) (stop : Stop) (visit : Visit)
    → ComesIn seat seat' old mid left left' → (WantsMore old → seat.may_read ≡ true → seat.at_end ≡ false → visit.was_interrupted ≡ false → HasGot old seat' mid)
    → (seat'.may_read ≡ true → seat.may_read ≡ true) → seat'.may_write ≡ seat.may_write → (seat.at_end ≡ true → seat'.at_end ≡ true) → seat'.is_closing ≡ seat.is_closing
    → TurnsUntil MOST_OWED clock (has_ended seat') s mid after new stop
    → visit.answered ≡ new.answered - mid.answered
    → ((at : Moment) (es : List Exchange) → StopsTurn MOST_OWED at.clock (has_ended seat') at.state es new stop → GoesOn at seat' es new visit.then) → IsNoRead visit.then → (stop ≡ Costly → visit.then ≡ Dear)
    → VisitsSession clock s seat old after seat' new left left' visit
visited clock s after seat seat' old mid new left left' stop visit comes gets reads writes ended closing turns answered goes_on no_read dear =
    let came = comes.receives in
    let turn = turns.turn in
    let moved : Moved = record { came = came.piece; exchanges = turns.exchanges; sent = [] } in
    let at : Moment = record { state = after; clock = clock } in
    record {
      moved = moved;
      moves = record {
        cut = subst (λ (x : List ℕ). IsFrames x (frames_of turns.exchanges) new.held) came.holds turn.cut;
        owes = ap (λ (x : List ℕ). x ++ replied turns.exchanges) (sym came.owes) ∙ sym turn.owes;
        counts = omega (arith, turn.counts, came.counts);
        in_turn = turn.in_turn;
      };
      made = record {
        counts = omega (arith, answered, turn.counts);
        sends_nothing = refl;
        bounded = record {
          piece = omega (arith, comes.piece, came.count_is);
          comes = λ some. comes.wanted (omega (arith, some, came.count_is));
          answers = subst (λ (x : List ℕ). IsOwedBelow MOST_OWED x turns.exchanges) came.owes turns.below;
          dear = turns.dear;
        };
        reads = λ wants may still whole. has_read moved old mid seat' visit.then came.holds (gets wants may still whole);
        in_time = subst (λ (x : Option ℕ). InTime (has_ended seat') (is_over clock x) s turns.exchanges after) came.waits turns.in_time;
        times = times_before clock old mid new turns.exchanges after new.owed came.waits turns.times;
        serves = served at seat' old new moved left left' visit.then (came.leaves, done_by at seat' turns.exchanges new stop turns.stops) no_read;
        learns = record {
          reads = reads;
          read_waits = λ off. none_came seat came.piece comes.count came.count_is (comes.read_waits off);
          writes = writes;
          ended = ended;
          ends = λ on. at_the_end seat came.piece comes.count left' came.count_is (comes.ends on);
          closing = closing;
        };
        goes_on = goes_on at turns.exchanges turns.stops;
        dear_again = λ behind. dear (turns.again behind);
      };
    }

-- a visit whose read failed
pub not_visited : (clock : ℕ) (s : State) (seat seat' : Seat) (old new : SessionState) (left left' : Option (List ℕ)) (why : Why) → FailsToRead seat' old new left left' why
    → seat' ≡ seat → IsOver seat' new why
    → VisitsSession clock s seat old s seat' new left left' (record { answered = 0; was_interrupted = false; then = Over why })
not_visited clock s seat seat' old new left left' why fails same goes_on = by why fails goes_on where
  moved : Moved
  moved = record { came = []; exchanges = []; sent = [] }

  moves : new ≡ old → Moves s old moved s new
  moves is = subst (λ st. Moves s old moved s st) (sym is) (record {
    cut = subst (λ (x : List ℕ). IsFrames x [] old.held) (sym (append-nil old.held)) (turn_none s old).cut;
    owes = append-nil old.owed;
    counts = omega arith;
    in_turn = refl;
  })

  made : (why : Why) → new ≡ old → Serves (record { state = s; clock = clock }) seat' old moved new left left' (Over why) → IsOver seat' new why → HasRead moved seat' (Over why)
      → IsMade clock s seat seat' old moved s new left left' (record { answered = 0; was_interrupted = false; then = Over why })
  made why is serves goes_on read = record {
    counts = refl;
    sends_nothing = refl;
    in_time = refl;
    times = record { stays = λ none until was. ap (λ (x : SessionState). x.due) is ∙ was; begins = λ until has. inl (refl, sym (ap (λ (x : SessionState). x.due) is) ∙ has) };
    bounded = record { piece = omega arith; comes = λ some. absurd (omega (arith, some)); answers = tt; dear = tt };
    reads = λ wants may still whole. read;
    serves = serves;
    learns = record {
      reads = λ on. sym (ap (λ (x : Seat). x.may_read) same) ∙ on;
      read_waits = λ off. inr refl;
      writes = ap (λ (x : Seat). x.may_write) same;
      ended = λ was. ap (λ (x : Seat). x.at_end) same ∙ was;
      ends = λ on. inl (sym (ap (λ (x : Seat). x.at_end) same) ∙ on);
      closing = ap (λ (x : Seat). x.is_closing) same;
    };
    goes_on = goes_on;
    dear_again = λ behind. absurd behind.0;
  }

  by : (why : Why) → FailsToRead seat' old new left left' why → IsOver seat' new why → VisitsSession clock s seat old s seat' new left left' (record { answered = 0; was_interrupted = false; then = Over why })
  by (Read k) fails goes_on = record { moved = moved; moves = moves fails.0; made = made (Read k) fails.0 ((fails.0, refl, refl), fails.1) goes_on tt }
  by OutOfMemory fails goes_on = record { moved = moved; moves = moves fails.0; made = made OutOfMemory fails.0 (inl ((fails.0, refl, refl), fails.1)) goes_on tt }
  by End fails goes_on = absurd fails
  by (Write k) fails goes_on = absurd fails
  by (Frame e) fails goes_on = absurd fails
