-- What clients ask first is read of the configuration and of the next producer id alone, so brokers that are alike answer it
-- alike.
use Rattle.std.proofs.Common.{ℕ, ℤ, pos, ◌+ℤ◌, List, [], ◌∷◌, Option, Some, refl, ap}
use Rattle.std.specs.Prelude.{is_some}
use Rattle.std.specs.Ordering.{int_eq}
use Rattle.request_frames.specs.Requests.BodyValue.{find_coordinator, api_versions, init_producer_id}
use Rattle.answering.specs.declared.codes.ErrorCode.TheVariants.{UnknownServerError, InvalidTransactionState}
use Rattle.answering.specs.Lists.{fault_if, first_some}
use Rattle.broker_state.specs.State.{State}
use Rattle.broker_state.specs.Checks.{no_group, role_code}
use Rattle.broker_state.specs.Producers.{greatest_int64, with_id_given}
use Rattle.setup_requests.specs.FindCoordinator.{this_coordinator, find_coordinator_work, find_coordinator_sent}
use Rattle.setup_requests.specs.InitProducerId.{id_answer, init_producer_id_work, init_producer_id_sent}
use Rattle.cleaning_laws.specs.Logs.{Logs}
use Rattle.cleaning_laws.specs.Alike.{AreAlike}
use Rattle.cleaning_laws.proofs.GrownLogs.{stay}
use Rattle.cleaning_laws.proofs.WorksAlike.{same_work}
use Rattle.cleaning_laws.proofs.OnlyRead.{BodyAlike, read_alike}

pub find_coordinator_alike : (logs : Logs) (s z : State) (n : ℤ) (group : List ℕ) → AreAlike logs s z → BodyAlike logs s z n (find_coordinator group)
find_coordinator_alike logs s z n group alike =
    let both = read_alike logs s z (find_coordinator_work s group) (find_coordinator_work z group) alike
    (λ i. first_some (no_group group ∷ role_code (alike.config i).role ∷ [])) (λ code. refl) (λ none i. this_coordinator (alike.config i)) refl refl in
    record { states = both.1; replies = λ settled. ap (λ r. Some (find_coordinator_sent n r)) both.0 }

pub api_versions_alike : (logs : Logs) (s z : State) (n version : ℤ) → AreAlike logs s z → BodyAlike logs s z n (api_versions version)
api_versions_alike logs s z n version alike = record { states = stay logs s z alike; replies = λ settled. refl }

-- the same id is given out, and the number after it is the next one of both
both_give : (logs : Logs) (s z : State) → AreAlike logs s z → AreAlike logs (with_id_given s) (with_id_given z)
both_give logs s z alike = record {
  one = alike.one;
  other = alike.other;
  config = alike.config;
  seen = alike.seen;
  next_producer = ap (λ (id : ℤ). id +ℤ pos 1) alike.next_producer;
}

pub init_producer_id_alike : (logs : Logs) (s z : State) (n : ℤ) (id : Option (List ℕ)) → AreAlike logs s z → BodyAlike logs s z n (init_producer_id id)
init_producer_id_alike logs s z n id alike =
    let both = same_work logs s z (init_producer_id_work s id) (init_producer_id_work z id) alike
    (λ i. first_some (fault_if (is_some id) InvalidTransactionState ∷ role_code (alike.config i).role ∷ fault_if (int_eq (alike.next_producer i) greatest_int64) UnknownServerError ∷ []))
    (λ code. refl)
    (λ none. (ap id_answer alike.next_producer, stay logs (with_id_given s) (with_id_given z) (both_give logs s z alike))) in
    record { states = both.1; replies = λ settled. ap (λ r. Some (init_producer_id_sent n r)) both.0 }
