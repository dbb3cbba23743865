-- How a session goes on after a visit, and after a send.
use Rattle.std.proofs.Common.{◌≡◌, ℕ, ◌<◌, ◌≤◌, arith, Bool, true, false, List, [], ◌∷◌, length, sym, ap, subst, refl, ◌∙◌, inl, inr}
use Rattle.std.specs.Prelude.{Option, ◌⊎◌, ◌&&◌, nat_le, nat_lt}
use Rattle.frame_fields.specs.declared.error.FrameError.{FrameError}
use Rattle.frame_fields.specs.Frames.{IsIncomplete}
use Rattle.frame_fields.proofs.FramesCut.{first_not_incomplete}
use Rattle.broker_node.specs.Streams.{RefusesNext}
use Rattle.sessions.specs.declared.replying.NextError.{NextError}
use Rattle.sessions.specs.declared.replying.NextError.TheVariants as next
use Rattle.sessions.specs.declared.visiting.TheConstants.{MOST_OWED}
use Rattle.sessions.specs.declared.visiting.Seat.{Seat}
use Rattle.sessions.specs.declared.visiting.Why.{Why}
use Rattle.sessions.specs.declared.visiting.Why.TheVariants as whys
use Rattle.sessions.specs.Turns.{SessionState, HasFirst, HasRequest, StopsNext, IsWaiting, WaitsFirst}
use Rattle.sessions.specs.Visits.{HasStop, IsIdle, IsOver, IsReady, HasMore, Moment, StaysIdle, WantsMore, Waits, has_ended}
use Rattle.sessions.specs.Steps.{FailsToRead, frees}

pub none_there : (xs : List ℕ) → length xs ≡ 0 → xs ≡ []
none_there [] none = refl
none_there (x ∷ xs) none = absurd (omega (arith, none))

is_owed : {P : Type 0} (now : SessionState) → 0 < length now.owed → now.owed ≡ [] → P
is_owed now some none = absurd (omega (arith, some, ap length none))

-- ---- a frame isn't answered

pub stop_idle : (at : Moment) (seat : Seat) (now : SessionState) (why : NextError) → 0 < length now.owed → StopsNext now why → IsIdle at seat now
stop_idle at seat now why some stops = record {
  no_answer = λ less. inr (inl (why, stops));
  no_read = λ less short. inr (inr (why, stops));
  not_over = is_owed now some;
}

pub frame_over : (seat : Seat) (now : SessionState) (why : NextError) (e : FrameError) → why ≡ next.Frame e → length now.owed ≡ 0 → StopsNext now why → IsOver seat now (whys.Frame e)
frame_over seat now why e is none stops = (subst (StopsNext now) is stops, none_there now.owed none)

pub memory_over : (seat : Seat) (now : SessionState) (why : NextError) → why ≡ next.OutOfMemory → length now.owed ≡ 0 → StopsNext now why → IsOver seat now whys.OutOfMemory
memory_over seat now why is none stops = inr (subst (StopsNext now) is stops, none_there now.owed none)

-- ---- so much is owed, or nothing is complete

pub full_idle : (at : Moment) (seat : Seat) (now : SessionState) → MOST_OWED ≤ length now.owed → IsIdle at seat now
full_idle at seat now full = record {
  no_answer = λ less. absurd (omega (arith, full, less));
  no_read = λ less short. absurd (omega (arith, full, less));
  not_over = is_owed now (omega (arith, full));
}

pub end_over : (seat : Seat) (now : SessionState) → seat.at_end ≡ true → length now.owed ≡ 0 → IsIncomplete now.held → IsOver seat now whys.End
end_over seat now ended none short = (ended, short, none_there now.owed none)

pub end_idle : (at : Moment) (seat : Seat) (now : SessionState) → seat.at_end ≡ true → 0 < length now.owed → IsIncomplete now.held → IsIdle at seat now
end_idle at seat now ended some short = record {
  no_answer = λ less. inl short;
  no_read = λ less short. inr (inl ended);
  not_over = is_owed now some;
}

pub short_more : (seat : Seat) (now : SessionState) → seat.may_read ≡ true → seat.at_end ≡ false → length now.owed < MOST_OWED → IsIncomplete now.held → HasMore seat now
short_more seat now may more less short = (less, (short, may, more))

pub short_idle : (at : Moment) (seat : Seat) (now : SessionState) → (seat.may_read && nat_lt (length now.owed) MOST_OWED) ≡ false → seat.at_end ≡ false → IsIncomplete now.held → IsIdle at seat now
short_idle at seat now none more short = record {
  no_answer = λ less. inl short;
  no_read = λ less short. inl (grind (arith, none, less));
  not_over = λ none. (more, inl short);
}

-- ---- a frame waits

-- the input hasn't ended where a frame waits
not_at_end : (seat : Seat) → has_ended seat ≡ false → seat.at_end ≡ false
not_at_end seat none = grind (arith, none)

complete_first : {P : Type 0} (at : Moment) (now : SessionState) → IsWaiting at.clock at.state now → IsIncomplete now.held → P
complete_first at now w short = absurd (first_not_incomplete w.waits.frame now.held w.waits.rest w.waits.first short)

pub waits_idle : (at : Moment) (seat : Seat) (now : SessionState) → Waits at seat now → IsIdle at seat now
waits_idle at seat now waits = record {
  no_answer = λ less. inr (inr waits);
  no_read = λ less short. complete_first at now waits.1 short;
  not_over = λ none. (not_at_end seat waits.0, inr waits);
}

-- ---- behind a send

-- what is owed changes nothing of why the first frame isn't answered, nor of what it waits for
module _ (at : Moment) (seat : Seat) (old now : SessionState) (held : now.held ≡ old.held) (answered : now.answered ≡ old.answered) (due : now.due ≡ old.due) where
  stop_stays : (why : NextError) → StopsNext old why → StopsNext now why
  stop_stays (next.Frame e) stops = subst (RefusesNext e) (sym held) stops
  stop_stays next.OutOfMemory (inl first) = inl (subst HasRequest (sym held) first)
  stop_stays next.OutOfMemory (inr all) = inr (answered ∙ all)
  stop_stays (next.PutOff place) stops = subst HasRequest (sym held) stops

  waits_stay : Waits at seat old → Waits at seat now
  waits_stay w = (
    w.0,
    record {
      most = w.1.most;
      until = w.1.until;
      waits = subst (λ (x : List ℕ). WaitsFirst at.state x w.1.most) (sym held) w.1.waits;
      due_is = due ∙ w.1.due_is;
      later = w.1.later;
    },
  )

  answer_stays : IsIncomplete old.held ⊎ (HasStop old ⊎ Waits at seat old) → IsIncomplete now.held ⊎ (HasStop now ⊎ Waits at seat now)
  answer_stays (inl short) = inl (subst IsIncomplete (sym held) short)
  answer_stays (inr (inl stop)) = inr (inl (stop.0, stop_stays stop.0 stop.1))
  answer_stays (inr (inr waits)) = inr (inr (waits_stay waits))

  read_stays : (seat.may_read ≡ false) ⊎ ((seat.at_end ≡ true) ⊎ HasStop old) → (seat.may_read ≡ false) ⊎ ((seat.at_end ≡ true) ⊎ HasStop now)
  read_stays (inl off) = inl off
  read_stays (inr (inl ended)) = inr (inl ended)
  read_stays (inr (inr stop)) = inr (inr (stop.0, stop_stays stop.0 stop.1))

  over_stays : (seat.at_end ≡ false) × (IsIncomplete old.held ⊎ Waits at seat old) → (seat.at_end ≡ false) × (IsIncomplete now.held ⊎ Waits at seat now)
  over_stays (more, inl short) = (more, inl (subst IsIncomplete (sym held) short))
  over_stays (more, inr waits) = (more, inr (waits_stay waits))

  idle_stays : (length now.owed < MOST_OWED → length old.owed < MOST_OWED) → (now.owed ≡ [] → old.owed ≡ []) → IsIdle at seat old → IsIdle at seat now
  idle_stays was_less had_none idle = record {
    no_answer = λ less. answer_stays (idle.no_answer (was_less less));
    no_read = λ less short. read_stays (idle.no_read (was_less less) (subst IsIncomplete held short));
    not_over = λ none. over_stays (idle.not_over (had_none none));
  }

-- what was owed keeps a visit from nothing that it didn't keep it from before
pub stays_idle : (seat : Seat) (old now : SessionState) → now ≡ record old { owed = now.owed } → frees (length old.owed) (length now.owed) ≡ false → StaysIdle old seat now
stays_idle seat old now is keeps = λ at idle.
    idle_stays at seat old now (ap (λ (x : SessionState). x.held) is) (ap (λ (x : SessionState). x.answered) is) (ap (λ (x : SessionState). x.due) is)
    (λ less. grind (arith, keeps, less)) (λ none. none_there old.owed (grind (arith, keeps, ap length none))) idle

freed : (owing owed : ℕ) → frees owing owed ≡ true → (MOST_OWED ≤ owing) × (owed < MOST_OWED) ⊎ (0 < owing) × (owed ≡ 0)
freed owing owed is = by (nat_le MOST_OWED owing && nat_lt owed MOST_OWED) refl where
  by : (b : Bool) → (nat_le MOST_OWED owing && nat_lt owed MOST_OWED) ≡ b → (MOST_OWED ≤ owing) × (owed < MOST_OWED) ⊎ (0 < owing) × (owed ≡ 0)
  by true full = inl (grind (arith, full), grind (arith, full))
  by false none = inr (grind (arith, is, none), grind (arith, is, none))

-- it keeps one no more, and there may be something to do
pub ready : (seat : Seat) (old now : SessionState) → frees (length old.owed) (length now.owed) ≡ true → HasFirst now.held ⊎ ((seat.at_end ≡ true) ⊎ (seat.may_read ≡ true)) → IsReady old seat now
ready seat old now is there = (less (freed (length old.owed) (length now.owed) is), there) where
  less : (MOST_OWED ≤ length old.owed) × (length now.owed < MOST_OWED) ⊎ (0 < length old.owed) × (length now.owed ≡ 0)
      → (MOST_OWED ≤ length old.owed) × (length now.owed < MOST_OWED) ⊎ (0 < length old.owed) × (now.owed ≡ [])
  less (inl full) = inl full
  less (inr (some, none)) = inr (some, none_there now.owed none)

-- no frame is there, the input hasn't ended, and nothing may be read
pub quiet_idle : (seat : Seat) (old now : SessionState) → now ≡ record old { owed = now.owed } → seat.at_end ≡ false → seat.may_read ≡ false → IsIncomplete now.held → StaysIdle old seat now
quiet_idle seat old now is more off short = λ at idle. record {
  no_answer = λ less. inl short;
  no_read = λ less incomplete. inl off;
  not_over = λ none. (more, inl short);
}

-- ---- a read failed

pub read_over : (seat' : Seat) (old now : SessionState) (left left' : Option (List ℕ)) (why : Why) → FailsToRead seat' old now left left' why → IsOver seat' now why
read_over seat' old now left left' (whys.Read k) fails = (fails.2, fails.3, subst WantsMore (sym fails.0) fails.4)
read_over seat' old now left left' whys.OutOfMemory fails = inl (subst WantsMore (sym fails.0) fails.2)
read_over seat' old now left left' whys.End fails = absurd fails
read_over seat' old now left left' (whys.Write k) fails = absurd fails
read_over seat' old now left left' (whys.Frame e) fails = absurd fails
