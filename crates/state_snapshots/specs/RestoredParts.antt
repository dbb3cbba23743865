-- Words of private clauses: what the arrays of a head say.
use Rattle.std.specs.Prelude.{ℤ, List, map}
use Rattle.frame_fields.specs.Arrays.{ArrayBytes, values}
use Rattle.frame_fields.specs.Types.{TopicOf, topic, topic_request}
use Rattle.snapshots.specs.Heads.{partition_fields, partition_size}

-- the sizes of images
abbrev pub sizes_in : ArrayBytes → List ℤ
sizes_in a = map partition_size (values partition_fields a)

-- the topics
abbrev pub topics_in : ArrayBytes → List (TopicOf ℤ)
topics_in a = map (topic_request partition_fields partition_size) (values (topic partition_fields) a)
