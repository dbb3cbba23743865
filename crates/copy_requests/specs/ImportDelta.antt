-- Import, version 1: a delta is taken into a copy that follows. This project's own request. The order of the checks is
-- this project's own.
use Rattle.std.specs.Prelude.{ℕ, true, not, is_none, List, [], ◌∷◌, Option}
use Rattle.std.specs.Option.{unwrap_or}
use Rattle.content.specs.Content.{Content, empty}
use Rattle.deltas.specs.Deltas.{Delta, delta_of}
use Rattle.deltas.specs.Accepting.{is_for}
use Rattle.deltas.specs.Patches.{patch}
use Rattle.delta_bytes.specs.Reading.{delta_at}
use Rattle.copy_deltas.specs.Deciding.{accepts}
use Rattle.request_frames.specs.ImportDelta.{ImportDeltaValue}
use Rattle.responses.specs.declared.import.ImportAnswer.{ImportAnswer}
use Rattle.answering.specs.declared.codes.ErrorCode.{ErrorCode}
use Rattle.answering.specs.declared.codes.ErrorCode.TheVariants.{CorruptMessage, InvalidRequest}
use Rattle.answering.specs.Lists.{fault_if}
use Rattle.answering.specs.Codes.{code_number}
use Rattle.answering.specs.Work.{Work}
use Rattle.broker_state.specs.State.{State, content_at, with_content}
use Rattle.broker_state.specs.Checks.{unknown, not_follower}
use Rattle.copy_requests.specs.Import.{imported_answer}

-- ---- what becomes of the content that is there, and the bytes that come

-- the delta that the bytes are; where they are none, the one that says nothing
abbrev pub given_delta : List ℕ → Delta
given_delta bytes = unwrap_or (delta_at bytes) (delta_of empty [])

-- the bytes are a delta, all that was asked is known, and what it tells is of the same log
abbrev pub delta_faults : (here : Content) → List ℕ → List (Option ErrorCode)
delta_faults here bytes =
    fault_if (is_none (delta_at bytes)) CorruptMessage
    ∷ fault_if (not (is_for here (given_delta bytes).asked)) InvalidRequest
    ∷ fault_if (not (accepts here (given_delta bytes))) InvalidRequest
    ∷ []

-- ---- the request

abbrev pub import_delta_work : State → ImportDeltaValue → Work ImportAnswer State
import_delta_work s q =
    let here = content_at s q.topic q.partition in
    record {
      early = unknown s q.topic q.partition ∷ not_follower s ∷ delta_faults here q.delta;
      takes_memory = true;
      late = [];
      done = (imported_answer tt, with_content s q.topic q.partition (patch here (given_delta q.delta)));
      failed = λ code. record { code = code_number code };
    }
