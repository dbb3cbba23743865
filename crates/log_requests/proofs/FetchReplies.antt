-- The answers to a Fetch request make one of the replies that its plan allows.
use Rattle.std.proofs.Common.{◌≡◌, ℕ, List, [], ◌++◌, length, Some, inl, ap, sym, ◌∙◌, append_assoc, append-nil}
use Rattle.std.specs.Prelude.{ℤ, pos, Option}
use Rattle.std.specs.List.{flat_map}
use Rattle.request_frames.specs.declared.fetch.partition.FetchPartition.{FetchPartition}
use Rattle.frame_fields.specs.Fields.{Value, size32, be, elements, encoded}
use Rattle.frame_fields.specs.Reading.{nothing}
use Rattle.frame_fields.specs.Types.{TopicOf}
use Rattle.request_frames.specs.Fetch.{fetch_partition, fetch_partition_value}
use Rattle.frame_fields.specs.Frames.{framed}
use Rattle.responses.specs.Responses.{response, topic_bytes}
use Rattle.responses.specs.Fetch.{Fetched, fetched_bytes, fetch_response, fetch_value}
use Rattle.responses.proofs.FetchParts.{fetch_parts}
use Rattle.answering.specs.declared.memory.Memory.{Memory}
use Rattle.answering.specs.Work.{MayAnswer}
use Rattle.broker_state.specs.State.{State}
use Rattle.log_requests.specs.Fetch.{FetchRoom, fetch_work}
use Rattle.log_requests.specs.Fetch.Entries.{fetch_entry_value, fetch_answer}

pub fetch_may : (s : State) (before : FetchRoom × Option Memory) (name : List ℕ) (v : Value fetch_partition) (r : Fetched) (after : FetchRoom × Option Memory)
    → (e : FetchPartition) × ((e.partition, (e.offset, (e.max_bytes, nothing))) ≡ v) × ((r, after.0) ≡ fetch_answer s name before.0 (fetch_entry_value e))
    → MayAnswer (fetch_work s before.0 name (fetch_partition_value v)) before.0 r after.0
fetch_may s before name v r after said = inl (said.2 ∙ ap (λ w. fetch_answer s name before.0 (fetch_partition_value w)) said.1)

parts : (throttle count topics : List ℕ) → (throttle ++ (count ++ topics)) ++ [] ≡ (throttle ++ (count ++ [])) ++ topics
parts throttle count topics = simp (append_assoc, append-nil {A = ℕ})

pub fetch_sends : (n : ℤ) (ts : List (TopicOf Fetched))
    → Some (framed (be size32 n ++ (be size32 (pos 0) ++ elements (topic_bytes fetched_bytes) ts ++ []))) ≡ Some (response n fetch_response (fetch_value ts))
unfolding encoded
fetch_sends n ts = ap (λ fields. Some (framed (be size32 n ++ fields))) (parts (be size32 (pos 0)) (be size32 (pos (length ts))) (flat_map (topic_bytes fetched_bytes) ts) ∙ sym (fetch_parts ts))
