-- InitProducerId: a producer gets an id of its own. Kafka's documentation, "Protocol Guide", section "The Messages".
-- There are no transactions here, so an id begins with epoch 0.
use Rattle.std.specs.Prelude.{ℕ, ℤ, pos, negsuc, false, is_some, List, [], ◌∷◌, Option}
use Rattle.std.specs.Ordering.{int_eq}
use Rattle.responses.specs.declared.init_producer_id.InitProducerIdAnswer.{InitProducerIdAnswer}
use Rattle.responses.specs.Responses.{response}
use Rattle.responses.specs.InitProducerId.{init_producer_id_response, init_producer_id_value}
use Rattle.answering.specs.declared.codes.ErrorCode.TheVariants.{UnknownServerError, InvalidTransactionState}
use Rattle.answering.specs.Codes.{no_error, code_number}
use Rattle.answering.specs.Lists.{fault_if}
use Rattle.answering.specs.Work.{Work}
use Rattle.broker_state.specs.State.{State}
use Rattle.broker_state.specs.Checks.{not_leader}
use Rattle.broker_state.specs.Producers.{greatest_int64, with_id_given}

abbrev pub id_answer : (id : ℤ) → InitProducerIdAnswer
id_answer id = record { code = no_error; producer_id = id; epoch = pos 0 }

abbrev pub init_producer_id_work : State → (transactional_id : Option (List ℕ)) → Work InitProducerIdAnswer State
init_producer_id_work s transactional_id = record {
  early =
      fault_if (is_some transactional_id) InvalidTransactionState
      ∷ not_leader s
      ∷ fault_if (int_eq s.next_producer greatest_int64) UnknownServerError
      ∷ [];
  takes_memory = false;
  late = [];
  done = (id_answer s.next_producer, with_id_given s);
  failed = λ code. record { code = code_number code; producer_id = negsuc 0; epoch = negsuc 0 };
}

abbrev pub init_producer_id_sent : (correlation : ℤ) → InitProducerIdAnswer → List ℕ
init_producer_id_sent correlation r = response correlation init_producer_id_response (init_producer_id_value r)
