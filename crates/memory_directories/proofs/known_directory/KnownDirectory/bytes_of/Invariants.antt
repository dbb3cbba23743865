use Rattle.std.proofs.Common.{◌≡◌, ◌≤◌, ℕ, length}
use Rattle.data_directory.specs.declared.names.Name.TheVariants.{Snapshot}
use Rattle.memory_directories.specs.KnownNames.{draft_bytes}
use Rattle.memory_directories.proofs.SnapshotBytes.{AreLeft}
use Rattle.memory_directories.proofs.known_directory.KnownDirectory.bytes_of.Given as goal

-- the changes that are left give what all give
abbrev pub invariant-loop-at : goal.invariant-loop-at
invariant-loop-at g l = record {
  within : l.at ≤ length l.self.changes.items;
  left : (number : ℕ) → l.name ≡ Snapshot number → AreLeft (λ change. change.named) (λ change. change.cut) (λ change. draft_bytes change.draft) number l.self.changes.items l.at;
}

abbrev pub decreases-loop-at : goal.decreases-loop-at
decreases-loop-at g l = l.at
