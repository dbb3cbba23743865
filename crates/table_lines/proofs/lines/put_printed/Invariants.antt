use Rattle.std.proofs.Common.{◌≡◌, length}
use Rattle.table_lines.specs.Lines.{printed}
use Rattle.table_lines.specs.Output.{SendsAllBut}
use Rattle.table_lines.proofs.lines.put_printed.Given as goal

-- the printed form of all but what is left
abbrev pub invariant-loop-rest : goal.invariant-loop-rest
invariant-loop-rest g l =
    (l.sink.failed ≡ l.initial.sink.failed)
    × SendsAllBut
    l.initial.sink.taken
    l.sink.taken
    l.initial.buffer.items
    l.buffer.items
    (printed l.rest)
    (printed l.bytes)

abbrev pub decreases-loop-rest : goal.decreases-loop-rest
decreases-loop-rest g l = length l.rest
