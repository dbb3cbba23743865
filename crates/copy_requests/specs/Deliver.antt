-- Deliver: bytes, which are one batch of a log, are taken into a copy that follows it. This project's own request; see
-- Kafka's design documentation, "Replication" (followers take the leader's batches). The order of the checks is this
-- project's own.
pub mod Entries
use Rattle.std.specs.Prelude.{ℕ, ℤ, pos, ◌^◌, Bool, false, not, ◌&&◌, int_le, int_lt, List, [], ◌∷◌, ◌++◌, Option}
use Rattle.std.specs.Option.{option_map}
use Rattle.batch_codec.specs.Values.{BatchValue}
use Rattle.batch_codec.specs.Offsets.{first_offset, last_offset}
use Rattle.batch_codec.specs.Reading.{batch_of}
use Rattle.content.specs.Content.{Content, has_seen_all, add}
use Rattle.content.specs.declared.delivery.DeliverError.{DeliverError}
use Rattle.content.specs.declared.delivery.DeliverError.TheVariants.{NotWhole, NoKey, BadOffset, Overlap}
use Rattle.copy_deltas.specs.Below.{has_any}
use Rattle.request_frames.specs.Deliver.{DeliverValue}
use Rattle.responses.specs.declared.deliver.DeliverAnswer.{DeliverAnswer}
use Rattle.responses.specs.Responses.{response}
use Rattle.responses.specs.Deliver.{deliver_response, deliver_value}
use Rattle.answering.specs.declared.codes.ErrorCode.{ErrorCode}
use Rattle.answering.specs.Lists.{fault_if, first_some}
use Rattle.answering.specs.Codes.{no_error, code_number}
use Rattle.answering.specs.Work.{Work}
use Rattle.broker_state.specs.State.{State, content_at, with_content}
use Rattle.broker_state.specs.Checks.{unknown, not_follower}
use Rattle.broker_state.specs.Batches.{batch_checks, is_whole, has_keys}
use Rattle.copy_requests.specs.Codes.{deliver_code}

-- ---- the batch

abbrev pub is_in_range : BatchValue → Bool
is_in_range b = int_le (pos 0) (first_offset b) && int_lt (last_offset b) (pos (2 ^ 62))

-- whether none of a batch's offsets was seen, and none is below the start
abbrev pub has_seen_none : Content → BatchValue → Bool
has_seen_none c b =
    int_le c.start (first_offset b) && not (has_any c.cover (first_offset b) (last_offset b))

-- the first fault for which a copy refuses a batch, but for lack of memory
abbrev pub deliver_fault : Content → BatchValue → Option DeliverError
deliver_fault c b = first_some (
    fault_if (not (is_whole b)) NotWhole
    ∷ fault_if (not (has_keys b)) NoKey
    ∷ fault_if (not (is_in_range b)) BadOffset
    ∷ fault_if (not (has_seen_all c b) && not (has_seen_none c b)) Overlap
    ∷ [])

-- ---- the request

abbrev pub deliver_checks : State → DeliverValue → List (Option ErrorCode)
deliver_checks s q =
    unknown s q.topic q.partition
    ∷ not_follower s
    ∷ batch_checks q.batch
    ++ option_map deliver_code (deliver_fault (content_at s q.topic q.partition) (batch_of q.batch)) ∷ []

-- A batch of which all was seen is a repeat: it changes nothing, and takes no memory.
abbrev pub deliver_work : State → DeliverValue → Work DeliverAnswer State
deliver_work s q =
    let c = content_at s q.topic q.partition in
    let b = batch_of q.batch in
    record {
      early = deliver_checks s q;
      takes_memory = not (has_seen_all c b);
      late = [];
      done = (record { code = no_error; repeat = has_seen_all c b }, with_content s q.topic q.partition (add c b));
      failed = λ code. record { code = code_number code; repeat = false };
    }

abbrev pub deliver_sent : (correlation : ℤ) → DeliverAnswer → List ℕ
deliver_sent correlation r = response correlation deliver_response (deliver_value r)
