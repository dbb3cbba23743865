-- How many entries a request has.
use Rattle.std.proofs.Common.{◌≡◌, ℕ, ◌+◌, List, ◌∷◌, length, ap, ◌∙◌}
use Rattle.std.specs.Prelude.{map}
use Rattle.std.specs.List.{flat_map}
use Rattle.std.proofs.lemmas.List.{length-map, length-append}
use Rattle.std.proofs.lemmas.List.Concat.{flat_map-cons}
use Rattle.frame_fields.specs.Fields.{Value}
use Rattle.frame_fields.specs.Types.{TopicOf, topic, topic_request}
use Rattle.request_frames.specs.Fetch.{FetchPartitionValue, fetch_partition, fetch_partition_value}

abbrev pub topics_in : List (Value (topic fetch_partition)) → List (TopicOf FetchPartitionValue)
topics_in ts = map (topic_request fetch_partition fetch_partition_value) ts

abbrev pub asked : List (Value (topic fetch_partition)) → ℕ
asked ts = length (flat_map (λ (t : TopicOf FetchPartitionValue). t.entries) (topics_in ts))

pub asked_more : (left ts : List (Value (topic fetch_partition))) (t : Value (topic fetch_partition)) → left ≡ t ∷ ts → asked left ≡ length t.1.0 + asked ts
asked_more left ts t is =
    ap asked is
    ∙ ap length (flat_map-cons (λ (x : TopicOf FetchPartitionValue). x.entries) (topic_request fetch_partition fetch_partition_value t) (topics_in ts))
    ∙ length-append (map fetch_partition_value t.1.0) (flat_map (λ (x : TopicOf FetchPartitionValue). x.entries) (topics_in ts))
    ∙ ap (λ (n : ℕ). n + asked ts) (length-map t.1.0 fetch_partition_value)
