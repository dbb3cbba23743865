use Rattle.data_directory.specs.Directories.{KeepsOthers}
use Rattle.kept_rotations.specs.Steps.{IsBelow}
use Rattle.kept_starts.proofs.starting.remove_lower.Given as goal

-- no other names were touched
abbrev pub invariant-loop-name : goal.invariant-loop-name
invariant-loop-name g l = KeepsOthers (IsBelow l.fn.snapshot) (g.D.Directory.state l.fn.directory) (g.D.Directory.state l.directory)
