-- What a head is written of.
use Rattle.std.specs.Prelude.{List, map}
use Rattle.frame_fields.specs.Fields.{Value}
use Rattle.frame_fields.specs.Types.{topic}
use Rattle.frame_fields.specs.Reading.{nothing}
use Rattle.snapshots.specs.declared.writing.SnapshotTopic.{SnapshotTopic}
use Rattle.snapshots.specs.declared.writing.SnapshotNumbers.{SnapshotNumbers}
use Rattle.snapshots.specs.Heads.{partition_fields, snapshot_fields}

-- the values of a topic's fields
abbrev pub topic_value : SnapshotTopic → Value (topic partition_fields)
topic_value t = (t.name.now, (map (λ z. (z, nothing)) t.sizes.now, nothing))

-- those of all fields
abbrev pub fields_value : SnapshotNumbers → List SnapshotTopic → Value snapshot_fields
fields_value n ts = (n.id.number, (n.role, (n.first_producer, (n.next_producer, (map topic_value ts, nothing)))))
