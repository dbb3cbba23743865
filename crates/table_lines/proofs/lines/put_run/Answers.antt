use Rattle.std.proofs.Common.{sym, rules}
use Rattle.std.proofs.lemmas.Result.{on_err_weaker}
use Rattle.table_lines.proofs.Printed.{escaped_there, printed_all}
use Rattle.table_lines.proofs.Sending.{sends_unescaped, sends_run, front_plain, front_run, front_escape}
use Rattle.table_lines.proofs.lines.put_run.Goals as goal

pub returns-in_default-clause-sends : goal.returns-in_default-clause-sends
returns-in_default-clause-sends g c = sends_unescaped _ _ _ _ c.args.bytes.now (sym c.in_default.ensures) c.in_ok-put.ensures.sends

pub put_escape-requires : goal.put_escape-requires
put_escape-requires g c = escaped_there c.args.bytes.now _ (sym c.in-Some.ensures)

pub returns-clause-sends : goal.returns-clause-sends
returns-clause-sends g c = sends_run _ _ _ _ _ _ c.args.bytes.now _ (sym c.in-Some.ensures) c.in_ok-put-2.ensures.sends c.in_ok-put_escape.ensures.sends

pub returns-in_err-put-clause-loses_rest : goal.returns-in_err-put-clause-loses_rest
returns-in_err-put-clause-loses_rest g c =
    let cut = on_err_weaker c.put.result
    (λ front. front_plain _ _ c.args.buffer.now.items c.args.bytes.now (printed_all c.args.bytes.now (sym c.in_default.ensures)) front)
    c.put.ensures.loses_rest in
    search (rules, cut)

pub returns-in_err-put-2-clause-loses_rest : goal.returns-in_err-put-2-clause-loses_rest
returns-in_err-put-2-clause-loses_rest g c =
    let cut = on_err_weaker c.put-2.result
    (λ front. front_run _ _ c.args.buffer.now.items c.args.bytes.now _ (sym c.in-Some.ensures) front)
    c.put-2.ensures.loses_rest in
    search (rules, cut)

pub returns-in_err-put_escape-clause-loses_rest : goal.returns-in_err-put_escape-clause-loses_rest
returns-in_err-put_escape-clause-loses_rest g c =
    let cut = on_err_weaker c.put_escape.result
    (λ front. front_escape _ _ _ c.args.buffer.now.items _ c.args.bytes.now _ (sym c.in-Some.ensures) c.in_ok-put-2.ensures.sends front)
    c.put_escape.ensures.loses_rest in
    search (rules, cut)
