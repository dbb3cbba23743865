use Rattle.std.proofs.Common.{Some}
use Rattle.memory_directories.specs.KnownNames.{draft_bytes, state_by}
use Rattle.memory_directories.proofs.SnapshotBytes.{opened_by, same_known}
use Rattle.memory_directories.proofs.known_directory.KnownDirectoryDirectory.open.Goals as goal

pub returns-clause-has_its_bytes : goal.returns-clause-has_its_bytes
returns-clause-has_its_bytes g c =
    let d = state_by c.args.self.now.changes.items (λ change. change.gone) (λ change. change.named) (λ change. change.cut) (λ change. draft_bytes change.draft) c.args.self.now.synced c.args.self.now.making in
    opened_by d c.args.name (Some c.in_ok-new.field-0.held.seen.items)
    (λ number is. same_known (d.bytes number) c.bytes_of.result.now c.in_ok-new.field-0.held.seen.items (c.bytes_of.ensures number is) c.in_ok-new.ensures.holds.0)
