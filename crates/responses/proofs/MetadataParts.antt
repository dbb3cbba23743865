-- The parts of a Metadata response, one after the other, are the encoding of its fields.
use Rattle.std.proofs.Common.{◌≡◌, ℕ, List, [], ◌∷◌, ◌++◌, length, refl, ap, ◌∙◌}
use Rattle.std.specs.Prelude.{ℤ, pos}
use Rattle.std.specs.List.{flat_map}
use Rattle.frame_fields.specs.Fields.{size8, size16, size32, be, elements, field, encoded}
use Rattle.frame_fields.specs.Types.{string, flag}
use Rattle.responses.specs.Metadata.{MetadataOfBroker, metadata_broker_fields, metadata_broker_value, MetadataOfTopic, metadata_partition_bytes, metadata_partition_value, metadata_partition_fields, metadata_topic_fields, metadata_topic_value, metadata_topic_bytes, metadata_response, metadata_value, metadata_head}
use Rattle.responses.proofs.ResponseParts.{elements_of, after_two}

metadata_topic_is : (t : MetadataOfTopic) → encoded metadata_topic_fields (metadata_topic_value t) ≡ metadata_topic_bytes t
unfolding encoded
metadata_topic_is t =
    let name = be size16 t.code ++ field string t.name in
    let internal = be size8 (flag t.is_internal) in
    ap (λ (x : List ℕ). name ++ (internal ++ (x ++ []))) (elements_of (encoded metadata_partition_fields) metadata_partition_value metadata_partition_bytes (λ p. refl) t.partitions)
    ∙ after_two name internal (be size32 (pos (length t.partitions))) (flat_map metadata_partition_bytes t.partitions)

pub metadata_parts : (b : MetadataOfBroker) (controller : ℤ) (ts : List MetadataOfTopic) → encoded metadata_response (metadata_value b controller ts) ≡ metadata_head b.node_id b.host b.port controller (length ts) ++ flat_map metadata_topic_bytes ts
unfolding encoded
metadata_parts b controller ts =
    let brokers = elements (encoded metadata_broker_fields) (metadata_broker_value b.node_id b.host b.port ∷ []) in
    ap (λ (x : List ℕ). brokers ++ (be size32 controller ++ (x ++ []))) (elements_of (encoded metadata_topic_fields) metadata_topic_value metadata_topic_bytes metadata_topic_is ts)
    ∙ after_two brokers (be size32 controller) (be size32 (pos (length ts))) (flat_map metadata_topic_bytes ts)
