-- What all responses have: the frame, and the heads of topics. Kafka's documentation, "Protocol Guide", sections
-- "Response Header" and "The Messages".
use Rattle.std.specs.Prelude.{ℕ, ℤ, pos, negsuc, List, ◌++◌, length, map, Option, Some, None}
use Rattle.std.specs.List.{flat_map}
use Rattle.frame_fields.specs.Fields.{size32, Fields, end, Value, be, encoded}
use Rattle.frame_fields.specs.Frames.{framed}
use Rattle.frame_fields.specs.Types.{TopicOf, topic, int32, string, ◌⨾◌}

-- ---- the frame

abbrev pub response : (correlation : ℤ) (d : Fields) → Value d → List ℕ
response correlation d v = framed (be size32 correlation ++ encoded d v)

-- before the fields: a size that is not known yet, and the correlation id
unfoldable pub response_head : (correlation : ℤ) → List ℕ
response_head correlation = be size32 (pos 0) ++ be size32 correlation

-- ---- topics

-- before topics: their count
abbrev pub count_bytes : (count : ℕ) → List ℕ
count_bytes count = encoded (int32 ⨾ end) (pos count, tt)

abbrev pub topic_values : {Entry : Type 0} → (d : Fields) → (Entry → Value d) → List (TopicOf Entry) → List (Value (topic d))
topic_values d f ts = map (λ t. (t.name, (map f t.entries, tt))) ts

-- before a topic's partitions: its name, their count
abbrev pub topic_head : (name : List ℕ) (count : ℕ) → List ℕ
topic_head name count = encoded (string ⨾ int32 ⨾ end) (name, (pos count, tt))

abbrev pub topic_bytes : {Entry : Type 0} → (Entry → List ℕ) → TopicOf Entry → List ℕ
topic_bytes f t = topic_head t.name (length t.entries) ++ flat_map f t.entries

-- ---- bytes that may be null

-- the length that stands before them, -1 for null
abbrev pub length_or_null : Option (List ℕ) → ℤ
length_or_null None = negsuc 0
length_or_null (Some bytes) = pos (length bytes)
