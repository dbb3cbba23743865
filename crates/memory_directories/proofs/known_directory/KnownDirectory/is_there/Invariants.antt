use Rattle.std.proofs.Common.{◌≡◌, take}
use Rattle.memory_directories.specs.KnownNames.{is_there_by}
use Rattle.memory_directories.proofs.known_directory.KnownDirectory.is_there.Given as goal

abbrev pub invariant-loop-change : goal.invariant-loop-change
invariant-loop-change g l = l.is_there ≡ is_there_by (take l.change-index l.self.changes.items) (λ change. change.gone) (λ change. change.named) l.name
