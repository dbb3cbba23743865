-- Cover: the offsets that a partition has seen are sent, as their maximal ranges. This project's own request.
use Rattle.std.specs.Prelude.{ℕ, ℤ, false, nat_lt, List, [], ◌∷◌, length}
use Rattle.cover_ranges.specs.Runs.{Runs}
use Rattle.request_frames.specs.Cover.{CoverValue}
use Rattle.responses.specs.Responses.{response}
use Rattle.responses.specs.Cover.{cover_response, cover_value}
use Rattle.answering.specs.declared.codes.ErrorCode.TheVariants.{MessageTooLarge}
use Rattle.answering.specs.Lists.{fault_if}
use Rattle.answering.specs.Codes.{no_error, code_number}
use Rattle.answering.specs.Work.{Work}
use Rattle.broker_state.specs.State.{State, content_at}
use Rattle.broker_state.specs.Checks.{unknown}
use Rattle.copy_requests.specs.declared.cover.TheConstants.{MAX_COVER_RUNS}

pub record CoverResult : Type 0 where
  pub code : ℤ
  pub runs : Runs

abbrev pub cover_work : State → CoverValue → Work CoverResult State
cover_work s q =
    let runs = (content_at s q.topic q.partition).cover in
    record {
      early = unknown s q.topic q.partition ∷ fault_if (nat_lt MAX_COVER_RUNS (length runs)) MessageTooLarge ∷ [];
      takes_memory = false;
      late = [];
      done = (record { code = no_error; runs = runs }, s);
      failed = λ code. record { code = code_number code; runs = [] };
    }

abbrev pub cover_sent : (correlation : ℤ) → CoverResult → List ℕ
cover_sent correlation r = response correlation cover_response (cover_value r.code r.runs)
