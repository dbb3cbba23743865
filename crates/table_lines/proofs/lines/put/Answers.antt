use Rattle.std.proofs.lemmas.Result.{on_ok_weaker, on_err_weaker}
use Rattle.table_lines.proofs.Sending.{sends_past, lost_past}
use Rattle.table_lines.proofs.lines.put.Goals as goal

pub returns-then-bytes-capacity-2-clause-sends : goal.returns-then-bytes-capacity-2-clause-sends
returns-then-bytes-capacity-2-clause-sends g c =
    on_ok_weaker c.send.result
    (λ after. sends_past _ _ _ c.args.buffer.now.items c.pass_on.new.buffer.items c.args.bytes.now c.in_ok-pass_on.ensures.writes_all c.in_ok-pass_on.ensures.empties_buffer after)
    c.send.ensures.appends

pub returns-then-bytes-capacity-2-clause-loses_rest : goal.returns-then-bytes-capacity-2-clause-loses_rest
returns-then-bytes-capacity-2-clause-loses_rest g c =
    on_err_weaker c.send.result
    (λ lost. lost_past _ _ _ c.args.buffer.now.items c.args.bytes.now c.in_ok-pass_on.ensures.writes_all lost)
    c.send.ensures.loses_rest
