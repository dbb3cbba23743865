use Rattle.std.proofs.Common.{◌≡◌, ◌++◌, take}
use Rattle.std.specs.Prelude.{map}
use Rattle.std.specs.List.{flat_map}
use Rattle.answering.specs.Writing.{Begins}
use Rattle.responses.specs.Metadata.{metadata_topic_bytes}
use Rattle.log_requests.specs.Metadata.{metadata_at}
use Rattle.log_requests.proofs.metadata.put_names.Given as goal

abbrev pub invariant-loop-name : goal.invariant-loop-name
invariant-loop-name g l =
    (l.out.items ≡ l.fn.out.items ++ flat_map metadata_topic_bytes (map (λ n. metadata_at l.state n.now) (take l.name-index l.names)))
    × Begins l.fn.out.items l.out.items
