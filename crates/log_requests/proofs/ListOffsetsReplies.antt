-- The answers to a ListOffsets request make one of the replies that its plan allows.
use Rattle.std.proofs.Common.{◌≡◌, ℕ, List, [], ◌++◌, length, Some, inl, ap, sym, ◌∙◌, append_assoc, append-nil}
use Rattle.std.specs.Prelude.{ℤ, pos, Option}
use Rattle.std.specs.List.{flat_map}
use Rattle.request_frames.specs.declared.list_offsets.partition.ListOffsetsPartition.{ListOffsetsPartition}
use Rattle.responses.specs.declared.list_offsets.partition.ListedPartition.{ListedPartition}
use Rattle.frame_fields.specs.Fields.{Value, size32, be, elements, encoded}
use Rattle.frame_fields.specs.Reading.{nothing}
use Rattle.frame_fields.specs.Types.{TopicOf}
use Rattle.request_frames.specs.ListOffsets.{list_offsets_partition, list_offsets_partition_value}
use Rattle.frame_fields.specs.Frames.{framed}
use Rattle.responses.specs.Responses.{response, topic_bytes}
use Rattle.responses.specs.ListOffsets.{list_offsets_answer_bytes, list_offsets_response, list_offsets_value}
use Rattle.responses.proofs.ListOffsetsParts.{list_offsets_parts}
use Rattle.answering.specs.declared.memory.Memory.{Memory}
use Rattle.answering.specs.Work.{answer, IsAnswer, MayAnswer}
use Rattle.broker_state.specs.State.{State}
use Rattle.log_requests.specs.ListOffsets.{list_offsets_work}

pub list_offsets_may : (s : State) (before : Unit {0} × Option Memory) (name : List ℕ) (v : Value list_offsets_partition) (r : ListedPartition) (after : Unit {0} × Option Memory)
    → (e : ListOffsetsPartition) × ((e.partition, (e.time, nothing)) ≡ v) × IsAnswer (list_offsets_work s name (record { partition = e.partition; time = e.time })) s r s
    → MayAnswer (list_offsets_work s name (list_offsets_partition_value v)) s r s
list_offsets_may s before name v r after said = inl (said.2 ∙ ap (λ w. answer (list_offsets_work s name (list_offsets_partition_value w)) s) said.1)

parts : (count topics : List ℕ) → (count ++ topics) ++ [] ≡ (count ++ []) ++ topics
parts count topics = simp (append_assoc, append-nil {A = ℕ})

pub list_offsets_sends : (n : ℤ) (ts : List (TopicOf ListedPartition))
    → Some (framed (be size32 n ++ (elements (topic_bytes list_offsets_answer_bytes) ts ++ []))) ≡ Some (response n list_offsets_response (list_offsets_value ts))
unfolding encoded
list_offsets_sends n ts = ap (λ fields. Some (framed (be size32 n ++ fields))) (parts (be size32 (pos (length ts))) (flat_map (topic_bytes list_offsets_answer_bytes) ts) ∙ sym (list_offsets_parts ts))
