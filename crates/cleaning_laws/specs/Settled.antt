-- Which requests are within the logs, and which replies no cleaning changes. Kafka's documentation, "Protocol Guide",
-- section "The Messages".
use Rattle.std.specs.Prelude.{◌≡◌, ℕ, ℤ, pos, Bool, true, false, ⊤, int_lt, List, Some}
use Rattle.std.specs.List.{AllByRecursion, list_all}
use Rattle.frame_fields.specs.Frames.{IsBytes}
use Rattle.frame_fields.specs.Types.{TopicOf}
use Rattle.batch_codec.specs.Reading.{batch_of, IsEncoding}
use Rattle.batch_codec.specs.Offsets.{first_offset}
use Rattle.content.specs.ByOffset.{look_up}
use Rattle.batch_codec.specs.Values.{BatchValue}
use Rattle.content.specs.Content.{Content, IsContent, IsLogBatch}
use Rattle.content.specs.Logs.{IsPlainLog}
use Rattle.content.specs.Copies.{IsCopy}
use Rattle.deltas.specs.Deltas.{Delta, delta_of}
use Rattle.delta_bytes.specs.Reading.{delta_at}
use Rattle.request_frames.specs.Requests.BodyValue.{produce, fetch, list_offsets, offset_commit, deliver, clean, clean_part, export, export_delta, import, import_delta, trim}
use Rattle.request_frames.specs.Requests.{BodyValue, RequestValue}
use Rattle.request_frames.specs.ListOffsets.{ListOffsetsPartitionValue}
use Rattle.request_frames.specs.OffsetCommit.{OffsetCommitPartitionValue}
use Rattle.request_frames.specs.Deliver.{DeliverValue}
use Rattle.request_frames.specs.ImportDelta.{ImportDeltaValue}
use Rattle.group_offsets.specs.Keys.{GroupKeyFits}
use Rattle.group_offsets.specs.CommittedValues.{CommittedFits}
use Rattle.broker_state.specs.declared.config.Role.TheVariants.{Follower}
use Rattle.broker_state.specs.State.{State, is_known, content_at}
use Rattle.copy_requests.specs.Trim.{is_outside, is_boundary}
use Rattle.broker_node.specs.Replies.{reply}
use Rattle.cleaning_laws.specs.Logs.{Logs}
use Rattle.cleaning_laws.specs.Alike.{StayAlike}

-- ---- requests within the logs

-- each entry of each topic
abbrev pub EachEntry : {E : Type 0} → (List ℕ → E → Type 0) → List (TopicOf E) → Type 0
EachEntry P ts = AllByRecursion (λ t. AllByRecursion (P t.name) t.entries) ts

-- the broker follows, and has this partition: of any other it takes nothing
pub record FollowsAt (s : State) (name : List ℕ) (p : ℤ) : Type 0 where
  pub follows : s.config.role ≡ Follower
  pub known : is_known s name p ≡ true

-- a log batch that is delivered to a follower's partition, as bytes that are its encoding, is the log's
abbrev pub IsOfLog : State → Logs → DeliverValue → Type 0
IsOfLog s logs q =
    let b = batch_of q.batch in
    FollowsAt s q.topic q.partition → IsEncoding q.batch → IsLogBatch b
    → look_up first_offset (first_offset b) (logs q.topic q.partition) ≡ Some b

-- It is the delta of a copy of the log, for whatever was asked. Only a plain log is one that copies are of.
pub record IsFromCopy (log : List BatchValue) (e : Delta) : Type 0 where
  pub sender : Content
  pub content : IsContent sender
  pub copy : IsPlainLog log → IsCopy sender log
  pub delta : e ≡ delta_of sender e.asked

-- a delta that comes to a follower's partition, as bytes, is that of a copy of the log
abbrev pub IsDeltaOfLog : State → Logs → ImportDeltaValue → Type 0
IsDeltaOfLog s logs q =
    FollowsAt s q.topic q.partition → (e : Delta) → delta_at q.delta ≡ Some e
    → IsFromCopy (logs q.topic q.partition) e

-- a STRING holds each name of a commit and its metadata, and its numbers are of their types
abbrev pub CommitFits : (group name : List ℕ) → OffsetCommitPartitionValue → Type 0
CommitFits group name e =
    GroupKeyFits (record { group = group; topic = name; partition = e.partition })
    × CommittedFits (record { offset = e.offset; metadata = e.metadata })

-- what a request brings is what its fields can hold
abbrev pub HoldsFields : BodyValue → Type 0
HoldsFields (produce q) = EachEntry (λ name e. IsBytes e.records) q.topics
HoldsFields (offset_commit q) = EachEntry (CommitFits q.group) q.topics
HoldsFields (deliver q) = IsBytes q.batch
HoldsFields (import_delta q) = IsBytes q.delta
HoldsFields _ = ⊤

-- What a request brings to a broker is of the logs. Of the broker's state only its role and which partitions it has are read,
-- and these stay. An image is only within the logs where it is refused, since the broker hasn't got its partition.
abbrev pub IsFromLogs : State → Logs → BodyValue → Type 0
IsFromLogs s logs (deliver q) = IsOfLog s logs q
IsFromLogs s logs (import q) = is_known s q.topic q.partition ≡ false
IsFromLogs s logs (import_delta q) = IsDeltaOfLog s logs q
IsFromLogs s logs _ = ⊤

abbrev pub IsWithin : State → Logs → BodyValue → Type 0
IsWithin s logs body = HoldsFields body × IsFromLogs s logs body

-- A Trim within a copy's offsets is to where the copy may start. Whether it is depends on which batches are kept.
abbrev pub MayTrim : State → BodyValue → Type 0
MayTrim s (trim q) =
    let c = content_at s q.topic q.partition in
    is_outside c q.start ≡ false → is_boundary c q.start ≡ true
MayTrim s _ = ⊤

-- ---- replies that are settled

-- A time below 0 is none: -1 asks for the end, -2 for the start, and others are refused.
abbrev pub is_no_time : ListOffsetsPartitionValue → Bool
is_no_time e = int_lt e.time (pos 0)

-- all replies but those that are read of which records are kept
abbrev pub is_settled : BodyValue → Bool
is_settled (fetch q) = false
is_settled (export q) = false
is_settled (export_delta q) = false
is_settled (clean q) = false
is_settled (clean_part q) = false
is_settled (list_offsets topics) = list_all (λ t. list_all is_no_time t.entries) topics
is_settled _ = true

-- two brokers answer a request alike
pub record AnswerAlike (logs : Logs) (s z : State) (q : RequestValue) : Type 0 where
  pub states : StayAlike logs (reply s q).1 (reply z q).1
  pub replies : is_settled q.body ≡ true → (reply s q).0 ≡ (reply z q).0
