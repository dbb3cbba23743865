-- The parts of a ListOffsets response, one after the other, are the encoding of its fields.
use Rattle.std.proofs.Common.{◌≡◌, List, ◌++◌, length, refl, ◌∙◌, append-nil}
use Rattle.std.specs.List.{flat_map}
use Rattle.responses.specs.declared.list_offsets.partition.ListedPartition.{ListedPartition}
use Rattle.frame_fields.specs.Fields.{encoded}
use Rattle.frame_fields.specs.Types.{TopicOf}
use Rattle.responses.specs.Responses.{topic_bytes}
use Rattle.responses.specs.ListOffsets.{list_offsets_response, list_offsets_value, list_offsets_head, list_offsets_answer_fields, list_offsets_answer_value, list_offsets_answer_bytes}
use Rattle.responses.proofs.ResponseParts.{topics_are}

pub list_offsets_parts : (ts : List (TopicOf ListedPartition)) → encoded list_offsets_response (list_offsets_value ts) ≡ list_offsets_head (length ts) ++ flat_map (topic_bytes list_offsets_answer_bytes) ts
unfolding encoded
list_offsets_parts ts = append-nil _ ∙ topics_are list_offsets_answer_fields list_offsets_answer_value list_offsets_answer_bytes (λ p. refl) ts
