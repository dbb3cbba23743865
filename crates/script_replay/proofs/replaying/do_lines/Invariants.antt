use Rattle.std.proofs.Common.{◌≡◌, ◌+◌, ◌≤◌}
use Rattle.script_replay.proofs.replaying.do_lines.Given as goal

-- reads that are left were not made
abbrev pub invariant-loop-line : goal.invariant-loop-line
invariant-loop-line g l =
    (l.source.reads + l.script.reads_left ≤ l.initial.source.reads + l.initial.script.reads_left)
    × (l.source.failed ≡ l.initial.source.failed)
