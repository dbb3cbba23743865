use Rattle.std.proofs.Common.{rules}
use Rattle.memory_directories.proofs.known_directory.KnownDirectory.list.Goals.{in_default-via-in-None-1, in_default-via-in-Some+else-is_there, in_default-via-in-Some+then-is_there+else-not-contains}
use Rattle.memory_directories.proofs.known_directory.KnownDirectory.list.Goals as goal

pub returns-in_default-clause-lists : goal.returns-in_default-clause-lists
returns-in_default-clause-lists g c =
    elim c.in_default.branch [ in_default-via-in-None-1 w ↦ search rules | in_default-via-in-Some+else-is_there w ↦ search rules | in_default-via-in-Some+then-is_there+else-not-contains w ↦ search rules ]
