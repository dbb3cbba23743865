use Rattle.std.proofs.Common.{◌≡◌, true, take}
use Rattle.std.specs.Prelude.{Contains}
use Rattle.data_directory.specs.declared.names.Name.{Name}
use Rattle.memory_directories.specs.KnownNames.{is_there_by}
use Rattle.memory_directories.proofs.known_directory.KnownDirectoryDirectory.names.Given as goal

abbrev pub invariant-loop-change : goal.invariant-loop-change
invariant-loop-change g l =
    (name : Name) → is_there_by l.self.changes.items (λ change. change.gone) (λ change. change.named) name ≡ true
    → is_there_by (take l.change-index l.self.changes.items) (λ change. change.gone) (λ change. change.named) name ≡ true → Contains l.names.items name
