-- The answers to an OffsetFetch request make one of the replies that its plan allows.
use Rattle.std.proofs.Common.{◌≡◌, ℕ, ◌+◌, Bool, List, [], ◌∷◌, ◌++◌, length, Some, ap, sym, subst, ◌∙◌, append_assoc, append-nil}
use Rattle.std.specs.Prelude.{ℤ, pos, map, nat_lt, Option}
use Rattle.std.specs.List.{flat_map}
use Rattle.std.proofs.lemmas.List.{length-map}
use Rattle.request_frames.specs.declared.offset_fetch.partition.OffsetFetchPartition.{OffsetFetchPartition}
use Rattle.frame_fields.specs.Fields.{Value, size32, be, elements, encoded}
use Rattle.frame_fields.specs.Reading.{nothing}
use Rattle.frame_fields.specs.Types.{TopicOf, topic, topic_request}
use Rattle.frame_fields.specs.Frames.{framed}
use Rattle.request_frames.specs.OffsetFetch.{OffsetFetchValue, offset_fetch_partition, offset_fetch_partition_value}
use Rattle.responses.specs.Responses.{response, topic_bytes}
use Rattle.responses.specs.OffsetFetch.{FetchedOffset, fetched_offset_bytes, offset_fetch_response, offset_fetch_value}
use Rattle.responses.proofs.OffsetFetchParts.{offset_fetch_parts}
use Rattle.answering.specs.declared.memory.Memory.{Memory}
use Rattle.answering.specs.Work.{MayAnswer}
use Rattle.broker_state.specs.State.{State}
use Rattle.group_requests.specs.declared.offset_fetch.TheConstants.{MAX_FETCHED_OFFSETS}
use Rattle.group_requests.specs.OffsetFetch.{offset_fetch_work, partition_count}

-- that the request names too many partitions is told beforehand, and what one walk found is known
pub offset_fetch_may : {Known : Type 0} → Known → (s : State) (q : OffsetFetchValue) (too_many : Bool) → too_many ≡ nat_lt MAX_FETCHED_OFFSETS (partition_count q.topics) → (before : Unit {0} × Option Memory) (name : List ℕ) (v : Value offset_fetch_partition) (r : FetchedOffset) (after : Unit {0} × Option Memory)
    → (e : OffsetFetchPartition) × ((e.partition, nothing) ≡ v) × (Known → MayAnswer (offset_fetch_work s q.group too_many name (record { partition = e.partition })) s r s)
    → MayAnswer (offset_fetch_work s q.group (nat_lt MAX_FETCHED_OFFSETS (partition_count q.topics)) name (offset_fetch_partition_value v)) s r s
offset_fetch_may known s q too_many told before name v r after said =
    subst (λ b. MayAnswer (offset_fetch_work s q.group b name (offset_fetch_partition_value v)) s r s) told
    (subst (λ w. MayAnswer (offset_fetch_work s q.group too_many name (offset_fetch_partition_value w)) s r s) said.1 (said.2 known))

parts : (count topics : List ℕ) → (count ++ topics) ++ [] ≡ (count ++ []) ++ topics
parts count topics = simp (append_assoc, append-nil {A = ℕ})

pub offset_fetch_sends : (n : ℤ) (ts : List (TopicOf FetchedOffset))
    → Some (framed (be size32 n ++ (elements (topic_bytes fetched_offset_bytes) ts ++ []))) ≡ Some (response n offset_fetch_response (offset_fetch_value ts))
unfolding encoded
offset_fetch_sends n ts = ap (λ fields. Some (framed (be size32 n ++ fields))) (parts (be size32 (pos (length ts))) (flat_map (topic_bytes fetched_offset_bytes) ts) ∙ sym (offset_fetch_parts ts))

-- ---- how many partitions are named

abbrev pub named : List (Value (topic offset_fetch_partition)) → ℕ
named ts = partition_count (map (topic_request offset_fetch_partition offset_fetch_partition_value) ts)

pub named_more : (left ts : List (Value (topic offset_fetch_partition))) (t : Value (topic offset_fetch_partition)) → left ≡ t ∷ ts → named left ≡ length t.1.0 + named ts
named_more left ts t is = ap named is ∙ ap (λ (n : ℕ). n + named ts) (length-map t.1.0 offset_fetch_partition_value)
