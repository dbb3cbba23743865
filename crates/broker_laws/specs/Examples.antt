-- A small broker, and requests to it, for the definitions worked out by hand.
use Rattle.std.specs.Prelude.{ℕ, ℤ, pos, negsuc, List, [], ◌∷◌, codes, Option, Some, None, Result}
use Rattle.batch_codec.specs.Grammar.{batch_encoding}
use Rattle.content.specs.Cleaning.{clean}
use Rattle.content.specs.Examples.{key_a, key_b, one, two, three, batch_0, copy_of_four, numbered, record_of, single}
use Rattle.responses.specs.declared.produce.partition.ProducedPartition.{ProducedPartition}
use Rattle.responses.specs.declared.list_offsets.partition.ListedPartition.{ListedPartition}
use Rattle.frame_fields.specs.Types.{TopicOf}
use Rattle.request_frames.specs.Requests.BodyValue.{produce, list_offsets, metadata, offset_commit, offset_fetch, forget_group}
use Rattle.request_frames.specs.Requests.{RequestValue}
use Rattle.request_frames.specs.Produce.{ProduceValue, ProducePartitionValue}
use Rattle.request_frames.specs.Fetch.{FetchPartitionValue}
use Rattle.responses.specs.Fetch.{Fetched}
use Rattle.broker_state.specs.declared.config.Role.TheVariants.{Leader, Follower}
use Rattle.broker_state.specs.State.{TopicConfig, ConfigValue, State, new_state, with_content}
use Rattle.answering.specs.Work.{answer}
use Rattle.log_requests.specs.Produce.{produce_work}
use Rattle.log_requests.specs.Fetch.{fetch_room, fetch_work}
use Rattle.log_requests.specs.ListOffsets.{list_offsets_work}
use Rattle.answering.specs.Plans.{over_topics}
use Rattle.group_offsets.specs.declared.error.GroupError.{GroupError}
use Rattle.group_offsets.specs.CommittedValues.{CommittedValue}
use Rattle.group_requests.specs.OffsetFetch.{offset_fetch_lookup}
use Rattle.broker_node.specs.Replies.{reply}

-- ---- configurations

abbrev pub topic_t : List ℕ
topic_t = codes "t"

abbrev pub topic : List ℕ → ℕ → TopicConfig
topic name partitions = record { name = name; partitions = partitions }

abbrev pub config_with : List TopicConfig → ConfigValue
config_with topics = record {
  role = Leader;
  node_id = pos 1;
  host = codes "127.0.0.1";
  port = 9092;
  topics = topics;
  first_producer = pos 0;
}

-- one topic with one partition
abbrev pub leader : State
leader = new_state (config_with (topic topic_t 1 ∷ []))

abbrev pub follower : State
follower = new_state (record (config_with (topic topic_t 1 ∷ [])) { role = Follower })

-- ---- requests of one entry

abbrev pub one_topic : {E : Type 0} → List ℕ → E → List (TopicOf E)
one_topic name e = record { name = name; entries = e ∷ [] } ∷ []

abbrev pub with_acks : ℤ → ProduceValue
with_acks acks = record { transactional_id = None; acks = acks; topics = [] }

abbrev pub transactional : ProduceValue
transactional = record (with_acks (pos 1)) { transactional_id = Some (codes "x") }

abbrev pub records_to : ℤ → List ℕ → ProducePartitionValue
records_to index records = record { index = index; records = records }

abbrev pub produce_request : (correlation acks : ℤ) → List ℕ → RequestValue
produce_request correlation acks records = record {
  correlation = correlation;
  body = produce (record (with_acks acks) { topics = one_topic topic_t (records_to (pos 0) records) });
}

-- the same records twice, for one partition
abbrev pub produce_twice : (correlation acks : ℤ) → List ℕ → RequestValue
produce_twice correlation acks records = record {
  correlation = correlation;
  body = produce (record (with_acks acks) {
    topics = record { name = topic_t; entries = records_to (pos 0) records ∷ records_to (pos 0) records ∷ [] } ∷ [];
  });
}

-- what is answered to an entry
abbrev pub produced_at : State → ProduceValue → List ℕ → ℤ → List ℕ → ProducedPartition
produced_at s q name index records = (answer (produce_work s q name (records_to index records)) s).0

abbrev pub list_offsets_request : (correlation time : ℤ) → RequestValue
list_offsets_request correlation time = record {
  correlation = correlation;
  body = list_offsets (one_topic topic_t (record { partition = pos 0; time = time }));
}

-- the frame of such a request: correlation id 7, a null client id, time -1
abbrev pub list_offsets_frame : List ℕ
list_offsets_frame =
    0 ∷ 2 ∷ 0 ∷ 1 ∷ 0 ∷ 0 ∷ 0 ∷ 7 ∷ 255 ∷ 255 ∷ 255 ∷ 255 ∷ 255 ∷ 255
    ∷ 0 ∷ 0 ∷ 0 ∷ 1 ∷ 0 ∷ 1 ∷ 116 ∷ 0 ∷ 0 ∷ 0 ∷ 1 ∷ 0 ∷ 0 ∷ 0 ∷ 0
    ∷ 255 ∷ 255 ∷ 255 ∷ 255 ∷ 255 ∷ 255 ∷ 255 ∷ 255 ∷ []

abbrev pub metadata_request : (correlation : ℤ) → Option (List (List ℕ)) → RequestValue
metadata_request correlation names = record { correlation = correlation; body = metadata names }

-- ---- batches

-- a=1, of no producer
abbrev pub good : List ℕ
good = batch_encoding batch_0

abbrev pub without_key : List ℕ
without_key = batch_encoding (record batch_0 {
  recs = record (record_of (pos 0) key_a one) { key = None } ∷ [];
})

-- a producer id of -2
abbrev pub bad_producer : List ℕ
bad_producer = batch_encoding (record batch_0 { head = numbered (pos 0) (negsuc 1) (pos 0) (pos 0) })

-- of producer 7 and epoch 0, with sequence number 0
abbrev pub numbered_batch : List ℕ
numbered_batch = batch_encoding (record batch_0 { head = numbered (pos 0) (pos 7) (pos 0) (pos 0) })

-- ---- a log of four batches: a=1, b=2, a deleted, b=3

-- each was sent with base offset 0
abbrev pub produced_one : State → List ℕ → Option (List ℕ) → State
produced_one s key value =
    (reply s (produce_request (pos 0) (pos 1) (batch_encoding (single (pos 0) key value)))).1

abbrev pub produced_four : State
produced_four = produced_one (produced_one (produced_one (produced_one leader key_a one) key_b two) key_a None) key_b three

-- below offset 3 it is cleaned, so the batches at 1 and 3 are kept
abbrev pub cleaned_leader : State
cleaned_leader = with_content leader topic_t (pos 0) (clean (pos 3) (pos 3) copy_of_four)

-- what is answered to a fetch, as a request's first entry
abbrev pub fetched_from : State → (offset max_bytes : ℤ) → Fetched
fetched_from s offset max_bytes =
    let e : FetchPartitionValue = record { partition = pos 0; offset = offset; max_bytes = pos 1048576 } in
    (answer (fetch_work s (fetch_room max_bytes) topic_t e) (fetch_room max_bytes)).0

-- what is answered to two such fetches in one request
abbrev pub fetched_twice : State → (offset max_bytes : ℤ) → List (TopicOf Fetched)
fetched_twice s offset max_bytes =
    let e : FetchPartitionValue = record { partition = pos 0; offset = offset; max_bytes = pos 1048576 } in
    (over_topics (λ room name e. answer (fetch_work s room name e) room) (fetch_room max_bytes)
    (record { name = topic_t; entries = e ∷ e ∷ [] } ∷ [])).0

-- what is answered to a time
abbrev pub listed_for : State → (partition time : ℤ) → ListedPartition
listed_for s partition time =
    (answer (list_offsets_work s topic_t (record { partition = partition; time = time })) s).0

-- ---- offsets of group g, of topic t

abbrev pub group_g : List ℕ
group_g = codes "g"

-- of partition 0, with metadata "m"
abbrev pub offset_commit_request : (correlation offset : ℤ) → RequestValue
offset_commit_request correlation offset = record {
  correlation = correlation;
  body = offset_commit (record {
    group = group_g;
    generation = negsuc 0;
    member = [];
    topics = one_topic topic_t (record { partition = pos 0; offset = offset; metadata = Some (codes "m") });
  });
}

abbrev pub offset_fetch_request : (correlation : ℤ) → RequestValue
offset_fetch_request correlation = record {
  correlation = correlation;
  body = offset_fetch (record { group = group_g; topics = one_topic topic_t (record { partition = pos 0 }) });
}

abbrev pub forget_group_request : (correlation : ℤ) → RequestValue
forget_group_request correlation = record { correlation = correlation; body = forget_group group_g }

-- offset 20 was committed, and offset 21 after it
abbrev pub committed_twice : State
committed_twice = (reply (reply leader (offset_commit_request (pos 0) (pos 20))).1 (offset_commit_request (pos 0) (pos 21))).1

abbrev pub forgotten : State
forgotten = (reply committed_twice (forget_group_request (pos 0))).1

-- what a group is found to have committed for the partition
abbrev pub found_for : State → (group : List ℕ) → Result (Option CommittedValue) GroupError
found_for s group = offset_fetch_lookup s group topic_t (pos 0)
