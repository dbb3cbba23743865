-- What a request may change of a broker, and in which partitions. Kafka's documentation, "Protocol Guide", section "The
-- Messages".
use Rattle.std.specs.Prelude.{ℕ, ℤ, pos, Bool, true, false, ◌&&◌, List, [], ◌∷◌, map, bytes_eq}
use Rattle.std.specs.List.{flat_map, list_any}
use Rattle.std.specs.Ordering.{int_eq}
use Rattle.frame_fields.specs.Types.{TopicOf}
use Rattle.request_frames.specs.Requests.BodyValue.{produce, list_offsets, offset_commit, offset_fetch, init_producer_id, deliver, clean, clean_part, export, export_delta, import, import_delta, get, forget_group, trim}
use Rattle.request_frames.specs.Requests.{BodyValue}
use Rattle.request_frames.specs.Produce.{ProducePartitionValue}
use Rattle.broker_state.specs.State.{group_topic}

pub record TopicPartition : Type 0 where
  pub topic : List ℕ
  pub partition : ℤ

-- A request only reads, gives out the next producer id, appends to partitions, takes into one what another copy has of it,
-- cleans one or a part of it, or moves the start of one.
pub data Effect : Type 0 where
  reads : Effect
  gives_id : Effect
  appends : List TopicPartition → Effect
  takes : TopicPartition → Effect
  cleans : TopicPartition → Effect
  trims : TopicPartition → Effect

-- the partitions of a Produce request's entries
abbrev pub produced_to : List (TopicOf ProducePartitionValue) → List TopicPartition
produced_to topics = flat_map (λ t. map (λ e. record { topic = t.name; partition = e.index }) t.entries) topics

-- where groups keep their offsets
abbrev pub group_partition : TopicPartition
group_partition = record { topic = group_topic; partition = pos 0 }

-- those that aren't named only read
abbrev pub effect : BodyValue → Effect
effect (produce q) = appends (produced_to q.topics)
effect (offset_commit q) = appends (group_partition ∷ [])
effect (forget_group group) = appends (group_partition ∷ [])
effect (init_producer_id id) = gives_id
effect (deliver q) = takes (record { topic = q.topic; partition = q.partition })
effect (import q) = takes (record { topic = q.topic; partition = q.partition })
effect (import_delta q) = takes (record { topic = q.topic; partition = q.partition })
effect (clean q) = cleans (record { topic = q.topic; partition = q.partition })
effect (clean_part q) = cleans (record { topic = q.topic; partition = q.partition })
effect (trim q) = trims (record { topic = q.topic; partition = q.partition })
effect _ = reads

-- ---- requests that may change something

abbrev pub is_change : Effect → Bool
is_change reads = false
is_change _ = true

abbrev pub may_change : BodyValue → Bool
may_change body = is_change (effect body)

-- ---- where it may change it

-- the partitions that may change
abbrev pub places : Effect → List TopicPartition
places reads = []
places gives_id = []
places (appends ps) = ps
places (takes p) = p ∷ []
places (cleans p) = p ∷ []
places (trims p) = p ∷ []

-- one of these is the partition
abbrev pub is_among : List TopicPartition → (topic : List ℕ) → (partition : ℤ) → Bool
is_among ps topic partition = list_any (λ p. bytes_eq p.topic topic && int_eq p.partition partition) ps

-- ---- requests that leave Fetches asleep

-- It only appends to partitions, or cleans one: a Fetch that waits is due by what is appended alone.
abbrev pub only_grows : Effect → Bool
only_grows (appends ps) = true
only_grows (cleans p) = true
only_grows _ = false

-- ---- requests that take long

-- Where a partition has much, these may take long: they look through its log, make an image of it, or take one in.
abbrev pub is_dear : BodyValue → Bool
is_dear (list_offsets topics) = true
is_dear (offset_fetch q) = true
is_dear (clean q) = true
is_dear (clean_part q) = true
is_dear (export q) = true
is_dear (export_delta q) = true
is_dear (import q) = true
is_dear (import_delta q) = true
is_dear (get q) = true
is_dear (forget_group group) = true
is_dear _ = false
