use Rattle.std.proofs.Common.{◌≡◌, ◌++◌, drop}
use Rattle.std.specs.Prelude.{map}
use Rattle.std.specs.List.{flat_map}
use Rattle.frame_fields.specs.Fields.{encoded, elements}
use Rattle.frame_fields.specs.Types.{topic}
use Rattle.snapshots.specs.Heads.{partition_fields}
use Rattle.snapshots.specs.Writing.{topic_value}
use Rattle.snapshots.proofs.writing.put_topics.Given as goal

-- what is left to be written gives what all gives
abbrev pub invariant-loop-one : goal.invariant-loop-one
invariant-loop-one g l =
    l.out.items ++ flat_map (encoded (topic partition_fields)) (map topic_value (drop l.one-index l.topics)) ≡ l.fn.out.items ++ elements (encoded (topic partition_fields)) (map topic_value l.topics)
