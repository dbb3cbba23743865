-- The parts of a Produce response, one after the other, are the encoding of its fields.
use Rattle.std.proofs.Common.{◌≡◌, List, ◌++◌, length, refl, ap, ℕ}
use Rattle.std.specs.List.{flat_map}
use Rattle.responses.specs.declared.produce.partition.ProducedPartition.{ProducedPartition}
use Rattle.frame_fields.specs.Fields.{encoded}
use Rattle.frame_fields.specs.Types.{TopicOf}
use Rattle.responses.specs.Responses.{topic_bytes}
use Rattle.responses.specs.Produce.{produce_response, produce_value, produce_head, produced_fields, produced_value, produced_bytes, produce_tail}
use Rattle.responses.proofs.ResponseParts.{topics_are}

pub produce_parts : (ts : List (TopicOf ProducedPartition)) → encoded produce_response (produce_value ts) ≡ produce_head (length ts) ++ (flat_map (topic_bytes produced_bytes) ts ++ produce_tail)
unfolding encoded
produce_parts ts = ap (λ (x : List ℕ). x ++ produce_tail) (topics_are produced_fields produced_value produced_bytes (λ p. refl) ts)
