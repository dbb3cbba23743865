-- Get: the value of a key is sent. This project's own request; see Kafka's design documentation, "Log Compaction" (a key's
-- value is its latest, and null deletes the key).
use Rattle.std.specs.Prelude.{ℕ, ℤ, false, List, [], ◌∷◌, Option, None}
use Rattle.std.specs.FinMap as finite
use Rattle.content.specs.Content.{shown_table}
use Rattle.request_frames.specs.Get.{GetValue}
use Rattle.responses.specs.Responses.{response}
use Rattle.responses.specs.Get.{get_response, get_value}
use Rattle.answering.specs.Codes.{no_error, code_number}
use Rattle.answering.specs.Work.{Work}
use Rattle.broker_state.specs.State.{State, content_at}
use Rattle.broker_state.specs.Checks.{unknown}

pub record GetResult : Type 0 where
  pub code : ℤ
  pub value : Option (List ℕ)

abbrev pub get_work : State → GetValue → Work GetResult State
get_work s q = record {
  early = unknown s q.topic q.partition ∷ [];
  takes_memory = false;
  late = [];
  done = (record { code = no_error; value = finite.get (shown_table (content_at s q.topic q.partition)) q.key }, s);
  failed = λ code. record { code = code_number code; value = None };
}

abbrev pub get_sent : (correlation : ℤ) → GetResult → List ℕ
get_sent correlation r = response correlation get_response (get_value r.code r.value)
