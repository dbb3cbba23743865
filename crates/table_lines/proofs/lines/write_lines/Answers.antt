use Rattle.std.proofs.Common.{rules, arith, ◌∙◌}
use Rattle.table_lines.proofs.Sending.{sends_next, front_lost, front_next, front_closed, front_unflushed}
use Rattle.std.proofs.lemmas.Result.{on_err_weaker}
use Rattle.table_lines.proofs.lines.write_lines.Goals as goal

pub loop-key-preserved : goal.loop-key-preserved
loop-key-preserved g c =
    (c.in_ok-put_line.ensures.keeps_flag ∙ c.loop-key.invariant.0, sends_next (λ row. (row.0.now, row.1.now)) _ _ _ _ _ _ c.loop-key.key-index c.args.rows.now _ (search rules) c.loop-key.invariant.1 c.in_ok-put_line.ensures.sends)

pub returns-in_err-put_line-clause-writes_front : goal.returns-in_err-put_line-clause-writes_front
returns-in_err-put_line-clause-writes_front g c =
    let cut = on_err_weaker c.put_line.result
    (λ lost. front_lost _ _ _ (front_next (λ row. (row.0.now, row.1.now)) _ _ _ _ _ c.loop-key.key-index c.args.rows.now _ (search rules) c.loop-key.invariant.1 lost))
    c.put_line.ensures.loses_rest in
    search (rules, cut)

pub returns-in_err-pass_on-clause-writes_front : goal.returns-in_err-pass_on-clause-writes_front
returns-in_err-pass_on-clause-writes_front g c =
    let cut = on_err_weaker c.pass_on.result
    (λ lost. front_closed (λ row. (row.0.now, row.1.now)) _ _ _ _ _ c.loop-key.key-index c.args.rows.now (omega (arith, c.loop-key-test.false)) c.loop-key.invariant.1 (front_lost _ _ _ lost))
    c.pass_on.ensures.loses_rest in
    search (rules, cut)

pub returns-clause-writes_front : goal.returns-clause-writes_front
returns-clause-writes_front g c =
    let all = front_closed (λ row. (row.0.now, row.1.now)) _ _ _ _ _ c.loop-key.key-index c.args.rows.now (omega (arith, c.loop-key-test.false)) c.loop-key.invariant.1
    (front_unflushed _ _ _ _ c.in_ok-pass_on.ensures.writes_all c.finish.ensures.keeps) in
    search (rules, all)
