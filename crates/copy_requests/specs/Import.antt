-- Import: a copy that comes as an image is merged into one that follows; a leader that has seen nothing takes it as its
-- log. This project's own request. The order of the checks is this project's own.
pub mod Images
use Rattle.std.specs.Prelude.{ℕ, ℤ, pos, negsuc, ◌+ℤ◌, Bool, true, false, not, ◌||◌, is_none, nat_lt, List, [], ◌∷◌, length, Option}
use Rattle.std.specs.Option.{unwrap_or}
use Rattle.std.specs.Ordering.{int_eq}
use Rattle.cover_ranges.specs.Runs.{has_all}
use Rattle.content.specs.Content.{Content, empty, end}
use Rattle.content.specs.Joins.{join}
use Rattle.copy_images.specs.Reading.{image_at}
use Rattle.copy_deltas.specs.Below.{agree}
use Rattle.request_frames.specs.Import.{ImportValue}
use Rattle.responses.specs.declared.import.ImportAnswer.{ImportAnswer}
use Rattle.responses.specs.Responses.{response}
use Rattle.responses.specs.Import.{import_response, import_value}
use Rattle.answering.specs.declared.codes.ErrorCode.{ErrorCode}
use Rattle.answering.specs.declared.codes.ErrorCode.TheVariants.{CorruptMessage, InvalidRequest}
use Rattle.answering.specs.Lists.{fault_if}
use Rattle.answering.specs.Codes.{no_error, code_number}
use Rattle.answering.specs.Work.{Work}
use Rattle.broker_state.specs.declared.config.Role.{Role}
use Rattle.broker_state.specs.declared.config.Role.TheVariants.{Leader, Follower}
use Rattle.broker_state.specs.State.{State, content_at, with_content}
use Rattle.broker_state.specs.Checks.{unknown}

-- ---- what becomes of the content that is there, and the one that comes

-- the offsets of a log are given out already
abbrev pub has_begun : Content → Bool
has_begun c = nat_lt 0 (length c.cover) || not (int_eq c.start (pos 0))

-- every offset from the start on and below the end was seen
abbrev pub is_gapless : Content → Bool
is_gapless c = has_all c.cover c.start (end c +ℤ negsuc 0)

-- a leader has to be new
abbrev pub import_role_fault : Role → Content → Option ErrorCode
import_role_fault Leader c = fault_if (has_begun c) InvalidRequest
import_role_fault Follower c = fault_if false InvalidRequest

-- the one that comes can be a leader's log, or is of the same log as the one that is there
abbrev pub import_fault : Role → (here given : Content) → Option ErrorCode
import_fault Leader here given = fault_if (not (is_gapless given)) InvalidRequest
import_fault Follower here given = fault_if (not (agree here given)) InvalidRequest

abbrev pub imported : Role → (here given : Content) → Content
imported Leader here given = given
imported Follower here given = join here given

-- ---- the request

abbrev pub imported_answer : Unit {0} → ImportAnswer
imported_answer u = record { code = no_error }

abbrev pub import_work : State → ImportValue → Work ImportAnswer State
import_work s q =
    let here = content_at s q.topic q.partition in
    let given = unwrap_or (image_at q.image) empty in
    record {
      early =
          unknown s q.topic q.partition
          ∷ import_role_fault s.config.role here
          ∷ fault_if (is_none (image_at q.image)) CorruptMessage
          ∷ [];
      takes_memory = true;
      late = import_fault s.config.role here given ∷ [];
      done = (imported_answer tt, with_content s q.topic q.partition (imported s.config.role here given));
      failed = λ code. record { code = code_number code };
    }

abbrev pub import_sent : (correlation : ℤ) → ImportAnswer → List ℕ
import_sent correlation r = response correlation import_response (import_value r)
