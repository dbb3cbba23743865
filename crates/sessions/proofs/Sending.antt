-- What is sent without a read or an answer.
use Rattle.std.proofs.Common.{◌≡◌, ◌≢◌, ℕ, zero, suc, ◌+◌, ◌-◌, ◌<◌, arith, List, [], ◌++◌, length, sym, ap, subst, refl, ◌∙◌, append-nil, Option, Some, Result, Ok, Err, inl, inr}
use Rattle.std.specs.Prelude.{◌⊎◌, true, false}
use Rattle.std.proofs.lemmas.List.{length-append}
use Rattle.broker_state.specs.State.{State}
use Rattle.frame_fields.specs.Frames.{IsFrames}
use Rattle.sessions.specs.declared.visiting.Seat.{Seat}
use Rattle.sessions.specs.declared.visiting.Flushed.{Flushed}
use Rattle.sessions.specs.declared.visiting.Why.{Why}
use Rattle.sessions.specs.declared.visiting.Why.TheVariants.{End, Read, Write, Frame, OutOfMemory}
use Rattle.sessions.specs.Turns.{SessionState}
use Rattle.sessions.specs.Visits.{GetsOn, Moves, SendsTo, TellsSent}
use Rattle.sessions.specs.Orders.{World, IsVisited, OnlyChanges, SendsAt, moves_out, session_at}
use Rattle.sessions.specs.Orders.Event.{Visits}
use Rattle.sessions.specs.Steps.{Writes, WriteFault}
use Rattle.sessions.proofs.Turning.{turn_none}
use Rattle.sessions.proofs.OneOrder.{goes_on}

-- ---- one session

-- something left, where it isn't told that nothing did though it might
pub gets_on : (old now : SessionState) (seat : Seat) (sent : List ℕ) (flushed : Flushed) (owing left : ℕ) → owing ≡ length old.owed → left ≡ length now.owed → (flushed.was_interrupted ≡ false → seat.may_write ≡ true → 0 < owing → left ≢ owing)
    → old.owed ≡ sent ++ now.owed → GetsOn old seat sent (Ok flushed)
gets_on old now seat sent flushed owing left was is differs parts none can some = by (length sent) refl where
  sum : length old.owed ≡ length sent + length now.owed
  sum = ap length parts ∙ length-append sent now.owed

  by : (n : ℕ) → length sent ≡ n → 0 < length sent
  by (suc n) e = omega (arith, e)
  by zero e = absurd (differs none can (omega (arith, was, some)) (omega (arith, sum, e, was, is)))

-- what went out, and what is told of it
pub sent_to : (seat seat' : Seat) (old mid new : SessionState) (taken taken' : Option (List ℕ)) (result : Result Flushed Why) → Writes seat.may_write seat'.may_write old mid taken taken' → new ≡ mid
    → seat' ≡ record seat { may_write = seat'.may_write } → ((sent : List ℕ) → old.owed ≡ sent ++ new.owed → new ≡ record old { owed = new.owed } → TellsSent old seat' sent new result) → ((sent : List ℕ) → old.owed ≡ sent ++ new.owed → GetsOn old seat' sent result) → SendsTo seat old seat' new taken taken' result
sent_to seat seat' old mid new taken taken' result w same seat_stays tells gets_on =
    let went = w.goes.1 in
    let owes : old.owed ≡ went.front ++ new.owed = went.owes ∙ ap (λ (x : SessionState). went.front ++ x.owed) (sym same) in
    let held : new.held ≡ old.held = ap (λ (x : SessionState). x.held) same ∙ went.holds in
    let counts : new.answered ≡ old.answered = ap (λ (x : SessionState). x.answered) same ∙ went.counts in
    let due : new.due ≡ old.due = ap (λ (x : SessionState). x.due) same ∙ went.waits in
    let stays : new ≡ record old { owed = new.owed } = λ i. record { held = held i; owed = new.owed; answered = counts i; due = due i } in
    record {
      sent = went.front;
      takes = went.takes;
      owes = owes;
      stays = stays;
      goes = λ some. w.only (omega (arith, some, went.count_is));
      seat_stays = seat_stays;
      writes = w.writes;
      write_waits = λ off. owed_still (w.waits off);
      tells = tells went.front owes stays;
      gets_on = gets_on went.front owes;
    }
  where
    owed_still : (seat.may_write ≡ false) ⊎ (0 < length mid.owed) → (seat.may_write ≡ false) ⊎ (0 < length new.owed)
    owed_still (inl off) = inl off
    owed_still (inr some) = inr (subst (λ (x : SessionState). 0 < length x.owed) (sym same) some)

pub count_sent : (old new sent : List ℕ) → old ≡ sent ++ new → length old - length new ≡ length sent
count_sent old new sent is = omega (arith, ap length is, length-append sent new)

pub fails_to_send : (old : SessionState) (seat : Seat) (sent : List ℕ) (mid new : SessionState) (why : Why) → new ≡ mid → WriteFault mid why → seat.may_write ≡ true → TellsSent old seat sent new (Err why)
fails_to_send old seat sent mid new (Write why) same fault may = (fault.0, may, subst (λ (x : SessionState). 0 < length x.owed) (sym same) fault.1)
fails_to_send old seat sent mid new End same fault may = absurd fault
fails_to_send old seat sent mid new (Read why) same fault may = absurd fault
fails_to_send old seat sent mid new (Frame why) same fault may = absurd fault
fails_to_send old seat sent mid new OutOfMemory same fault may = absurd fault

-- ---- among the others

-- a visit that sends, and moves nothing else
pub moves_sent : (s : State) (seat seat' : Seat) (old new : SessionState) (taken taken' : Option (List ℕ)) (result : Result Flushed Why) → (sends : SendsTo seat old seat' new taken taken' result)
    → Moves s old (moves_out sends.sent) s new
moves_sent s seat seat' old new taken taken' result sends = record {
  cut = subst (λ (x : List ℕ). IsFrames x [] new.held) (ap (λ (x : SessionState). x.held) sends.stays ∙ sym (append-nil old.held)) (turn_none s new).cut;
  owes = append-nil old.owed ∙ sends.owes;
  counts = omega (arith, ap (λ (x : SessionState). x.answered) sends.stays);
  in_turn = refl;
}

-- it is an event: a visit
visit_of_send : (who : ℕ) (seat seat' : Seat) (old new : World) (before after : SessionState) (taken taken' : Option (List ℕ)) (result : Result Flushed Why)
    → session_at old who ≡ Some before → session_at new who ≡ Some after → OnlyChanges who old new → new.next ≡ old.next → (sends : SendsTo seat before seat' after taken taken' result)
    → IsVisited who (moves_out sends.sent) old new
visit_of_send who seat seat' old new before after taken taken' result was is only next sends = record {
  before = before;
  after = after;
  was = was;
  is = is;
  moves = subst (λ (x : State). Moves old.state before (moves_out sends.sent) x after) (sym only.0) (moves_sent old.state seat seat' before after taken taken' result sends);
  others = only.1;
  next = next;
}

pub sent_in : (who : ℕ) (seat seat' : Seat) (old new : World) (before after : SessionState) (taken taken' : Option (List ℕ)) (result : Result Flushed Why)
    → session_at old who ≡ Some before → session_at new who ≡ Some after → OnlyChanges who old new → new.next ≡ old.next → SendsTo seat before seat' after taken taken' result
    → SendsAt who seat old seat' new taken taken' result
sent_in who seat seat' old new before after taken taken' result was is only next sends = record {
  before = before;
  after = after;
  sends = sends;
  was = was;
  is = is;
  only = only;
  next = next;
  goes_on = goes_on (Visits who (moves_out sends.sent)) old new (visit_of_send who seat seat' old new before after taken taken' result was is only next sends);
}

pub visited_to_send : (who : ℕ) (seat seat' : Seat) (old new : World) (taken taken' : Option (List ℕ)) (result : Result Flushed Why) → (sends : SendsAt who seat old seat' new taken taken' result)
    → IsVisited who (moves_out sends.sends.sent) old new
visited_to_send who seat seat' old new taken taken' result sends =
    visit_of_send who seat seat' old new sends.before sends.after taken taken' result sends.was sends.is sends.only sends.next sends.sends
