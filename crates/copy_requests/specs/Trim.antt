-- Trim: the start of a partition moves up. This project's own request; see Kafka's documentation, "DeleteRecords API".
use Rattle.std.specs.Prelude.{ℕ, ℤ, Bool, ◌||◌, not, int_lt, is_some, List, [], ◌∷◌, Option, false}
use Rattle.std.specs.Ordering.{int_eq}
use Rattle.batch_codec.specs.Offsets.{first_offset}
use Rattle.content.specs.ByOffset.{look_up}
use Rattle.content.specs.Content.{Content, cut, end}
use Rattle.request_frames.specs.Trim.{TrimValue}
use Rattle.responses.specs.declared.trim.TrimAnswer.{TrimAnswer}
use Rattle.responses.specs.Responses.{response}
use Rattle.responses.specs.Trim.{trim_response, trim_value}
use Rattle.answering.specs.declared.codes.ErrorCode.{ErrorCode}
use Rattle.answering.specs.declared.codes.ErrorCode.TheVariants.{OffsetOutOfRange, InvalidRequest}
use Rattle.answering.specs.Codes.{no_error, code_number}
use Rattle.answering.specs.Lists.{fault_if}
use Rattle.answering.specs.Work.{Work}
use Rattle.broker_state.specs.State.{State, content_at, with_content}
use Rattle.broker_state.specs.Checks.{unknown}

-- ---- where the start may not move to

-- below the start, or above the end
abbrev pub is_outside : Content → ℤ → Bool
is_outside c start = int_lt start c.start || int_lt (end c) start

-- the start, the end, the base of a kept batch, or the first offset of a run
abbrev pub is_boundary : Content → ℤ → Bool
is_boundary c start =
    int_eq start c.start || (int_eq start (end c)
    || (is_some (look_up first_offset start c.kept) || is_some (look_up (λ run. run.0) start c.cover)))

abbrev pub trim_faults : Content → ℤ → List (Option ErrorCode)
trim_faults c start =
    fault_if (is_outside c start) OffsetOutOfRange ∷ fault_if (not (is_boundary c start)) InvalidRequest ∷ []

-- ---- the request

abbrev pub trimmed_answer : Unit {0} → TrimAnswer
trimmed_answer u = record { code = no_error }

abbrev pub trim_work : State → TrimValue → Work TrimAnswer State
trim_work s q =
    let c = content_at s q.topic q.partition in
    record {
      early = unknown s q.topic q.partition ∷ trim_faults c q.start;
      takes_memory = false;
      late = [];
      done = (trimmed_answer tt, with_content s q.topic q.partition (cut q.start c));
      failed = λ code. record { code = code_number code };
    }

abbrev pub trim_sent : (correlation : ℤ) → TrimAnswer → List ℕ
trim_sent correlation r = response correlation trim_response (trim_value r)
