use Rattle.std.proofs.Common.{◌≡◌, ◌++◌, drop, FitsSigned, w64}
use Rattle.std.specs.List.{AllByRecursion}
use Rattle.broker_state.specs.Parts.{topic_contents}
use Rattle.state_snapshots.proofs.Written.{sizes}
use Rattle.state_snapshots.proofs.head.sizes_of.Given as goal

-- with those of what is left they are the sizes of all, and each is an int64
abbrev pub invariant-loop-index : goal.invariant-loop-index
invariant-loop-index g l =
    (l.sizes.items ++ sizes (drop l.index (topic_contents l.topic).partitions) ≡ sizes (topic_contents l.topic).partitions)
    × AllByRecursion (FitsSigned w64) l.sizes.items
