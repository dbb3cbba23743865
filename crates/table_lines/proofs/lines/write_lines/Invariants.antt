use Rattle.std.proofs.Common.{◌≡◌, take, map}
use Rattle.table_lines.specs.Lines.{lines}
use Rattle.table_lines.specs.Output.{Sends}
use Rattle.table_lines.proofs.lines.write_lines.Given as goal

-- the lines of the rows so far went to the sink, but for those that wait in the buffer
abbrev pub invariant-loop-key : goal.invariant-loop-key
invariant-loop-key g l =
    (l.sink.failed ≡ l.initial.sink.failed)
    × Sends
    l.initial.sink.taken
    l.sink.taken
    l.initial.buffer.items
    l.buffer.items
    (lines (map (λ row. (row.0.now, row.1.now)) (take l.key-index l.rows)))
