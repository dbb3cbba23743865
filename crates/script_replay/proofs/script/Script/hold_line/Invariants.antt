use Rattle.std.proofs.Common.{◌≡◌, ◌+◌, ◌≤◌}
use Rattle.script_replay.proofs.script.Script.hold_line.Given as goal

-- reads that are left were not made
abbrev pub invariant-loop : goal.invariant-loop
invariant-loop g l =
    (l.source.reads + l.self.reads_left ≤ l.initial.source.reads + l.initial.self.reads_left)
    × (l.source.failed ≡ l.initial.source.failed)
