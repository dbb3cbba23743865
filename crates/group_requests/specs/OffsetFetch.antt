-- OffsetFetch: what a group committed last for each partition. Kafka's documentation, "Protocol Guide", section "The
-- Messages", and "Consumer Offset Tracking". A follower answers from its copy; the limit, and the order of the checks, are
-- this project's own.
pub mod Walks
pub mod Entries
use Rattle.std.specs.Prelude.{ℕ, ℤ, ◌+◌, negsuc, Bool, true, nat_lt, List, [], ◌∷◌, length, Option, Some, None, Result, Ok, Err}
use Rattle.content.specs.Content.{shown_table}
use Rattle.frame_fields.specs.Types.{TopicOf}
use Rattle.request_frames.specs.OffsetFetch.{OffsetFetchValue, OffsetFetchPartitionValue}
use Rattle.responses.specs.Responses.{response}
use Rattle.responses.specs.OffsetFetch.{FetchedOffset, offset_fetch_response, offset_fetch_value}
use Rattle.group_offsets.specs.declared.error.GroupError.{GroupError}
use Rattle.group_offsets.specs.CommittedValues.{CommittedValue}
use Rattle.group_offsets.specs.Lookups.{lookup_in}
use Rattle.answering.specs.declared.codes.ErrorCode.{ErrorCode}
use Rattle.answering.specs.declared.codes.ErrorCode.TheVariants.{InvalidRequest, UnknownServerError}
use Rattle.answering.specs.Lists.{fault_if}
use Rattle.answering.specs.Codes.{no_error, code_number}
use Rattle.answering.specs.Work.{Work}
use Rattle.answering.specs.Plans.{Plan}
use Rattle.broker_state.specs.State.{State}
use Rattle.broker_state.specs.Checks.{no_group, unknown}
use Rattle.group_requests.specs.GroupPartition.{group_content}
use Rattle.group_requests.specs.declared.offset_fetch.TheConstants.{MAX_FETCHED_OFFSETS}

-- ---- an entry

-- what the group topic shows of a partition
abbrev pub offset_fetch_lookup : State → (group name : List ℕ) → (p : ℤ) → Result (Option CommittedValue) GroupError
offset_fetch_lookup s group name p =
    lookup_in (shown_table (group_content s)) (record { group = group; topic = name; partition = p })

-- a value that is there and can't be read; the names of a request are never too long
abbrev pub offset_fetch_fault : Result (Option CommittedValue) GroupError → Option ErrorCode
offset_fetch_fault (Ok found) = None
offset_fetch_fault (Err e) = Some UnknownServerError

-- of a partition of which nothing was committed, or that has a fault: no offset, and empty metadata
abbrev pub offset_fetch_none : (partition code : ℤ) → FetchedOffset
offset_fetch_none partition code =
    record { partition = partition; offset = negsuc 0; metadata = Some []; code = code }

abbrev pub offset_fetch_result : ℤ → Result (Option CommittedValue) GroupError → FetchedOffset
offset_fetch_result partition (Ok (Some v)) =
    record { partition = partition; offset = v.offset; metadata = v.metadata; code = no_error }
offset_fetch_result partition _ = offset_fetch_none partition no_error

-- `too_many` says whether the request names more partitions than are answered
abbrev pub offset_fetch_work : State → (group : List ℕ) → (too_many : Bool) → List ℕ → OffsetFetchPartitionValue → Work FetchedOffset State
offset_fetch_work s group too_many name e =
    let found = offset_fetch_lookup s group name e.partition in
    record {
      early = fault_if too_many InvalidRequest ∷ no_group group ∷ unknown s name e.partition ∷ [];
      takes_memory = true;
      late = offset_fetch_fault found ∷ [];
      done = (offset_fetch_result e.partition found, s);
      failed = λ code. offset_fetch_none e.partition (code_number code);
    }

-- ---- a request

-- how many partitions a request names in all
abbrev pub partition_count : {E : Type 0} → List (TopicOf E) → ℕ
partition_count [] = 0
partition_count (t ∷ ts) = length t.entries + partition_count ts

abbrev pub offset_fetch_plan : State → ℤ → OffsetFetchValue → Plan OffsetFetchPartitionValue FetchedOffset State State
offset_fetch_plan s correlation q = record {
  topics = q.topics;
  work = λ s name e. offset_fetch_work s q.group (nat_lt MAX_FETCHED_OFFSETS (partition_count q.topics)) name e;
  first = s;
  response = λ ts. Some (response correlation offset_fetch_response (offset_fetch_value ts));
  after = λ s. s;
}
