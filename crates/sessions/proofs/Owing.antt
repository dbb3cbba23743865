-- What is owed, with a reply behind it.
use Rattle.std.proofs.Common.{◌≡◌, ℕ, ◌<◌, Bool, true, List, ◌++◌, sym, ap, subst, ◌∙◌, append_assoc, Result, Ok, Err}
use Rattle.std.specs.Prelude.{IfOk}
use Rattle.frame_fields.specs.Frames.{IsIncomplete}
use Rattle.broker_state.specs.State.{State}
use Rattle.sessions.specs.declared.replying.Came.{Came}
use Rattle.sessions.specs.declared.replying.Came.TheVariants.{Answered, Short, Waits}
use Rattle.sessions.specs.Turns.{WaitsFirst}
use Rattle.sessions.specs.Steps.{AnswersDear, MatchCame}

-- the reply that stands behind others stands behind what is owed
owed_behind : (dear may_wait : Bool) (s after : State) (held rest front behind behind' : List ℕ) → AnswersDear dear may_wait s after held rest behind behind' → AnswersDear dear may_wait s after held rest (front ++ behind) (front ++ behind')
owed_behind dear may_wait s after held rest front behind behind' a = record {
  answer = record {
    exchange = a.answer.exchange;
    first = a.answer.first;
    answers = a.answer.answers;
    in_time = a.answer.in_time;
    appends = ap (λ (x : List ℕ). front ++ x) a.answer.appends ∙ sym (append_assoc front behind a.answer.exchange.reply);
  };
  dear_is = a.dear_is;
}

pub owed_next : {E : Type 0} (r : Result Came E) (may_wait : Bool) (s after : State) (Same SameOut : Type 0) (held rest front behind behind' old new : List ℕ) → old ≡ front ++ behind → new ≡ front ++ behind' → (SameOut → behind' ≡ behind)
    → IfOk r (λ came. MatchCame came (λ dear. AnswersDear dear may_wait s after held rest behind behind')
    ((after ≡ s) × Same × SameOut × IsIncomplete rest)
    (λ most. (after ≡ s) × Same × SameOut × ((may_wait ≡ true) × ((0 < most) × WaitsFirst s held most))))
    → IfOk r (λ came. MatchCame came (λ dear. AnswersDear dear may_wait s after held rest old new)
    ((after ≡ s) × Same × (new ≡ old) × IsIncomplete rest)
    (λ most. (after ≡ s) × Same × (new ≡ old) × ((may_wait ≡ true) × ((0 < most) × WaitsFirst s held most))))
owed_next (Err e) may_wait s after Same SameOut held rest front behind behind' old new was is same a = tt
owed_next (Ok (Answered dear)) may_wait s after Same SameOut held rest front behind behind' old new was is same a =
    subst (λ x. AnswersDear dear may_wait s after held rest x new) (sym was) (subst (AnswersDear dear may_wait s after held rest (front ++ behind)) (sym is) (owed_behind dear may_wait s after held rest front behind behind' a))
owed_next (Ok Short) may_wait s after Same SameOut held rest front behind behind' old new was is same a = (a.0, a.1, is ∙ ap (λ (x : List ℕ). front ++ x) (same a.2) ∙ sym was, a.3)
owed_next (Ok (Waits most)) may_wait s after Same SameOut held rest front behind behind' old new was is same a = (a.0, a.1, is ∙ ap (λ (x : List ℕ). front ++ x) (same a.2) ∙ sym was, a.3)
