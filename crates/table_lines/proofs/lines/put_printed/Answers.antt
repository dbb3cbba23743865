use Rattle.std.proofs.Common.{List, ℕ, sym, subst, rules, ◌∙◌}
use Rattle.std.proofs.lemmas.Result.{on_ok_weaker, on_err_weaker}
use Rattle.table_lines.specs.Output.{Sends}
use Rattle.table_lines.proofs.Printed.{printed_same}
use Rattle.table_lines.proofs.Sending.{sends_more, front_plain, front_left}
use Rattle.table_lines.proofs.lines.put_printed.Goals as goal

pub returns-then-are_unescaped-clause-sends : goal.returns-then-are_unescaped-clause-sends
returns-then-are_unescaped-clause-sends g c =
    on_ok_weaker c.put.result
    (subst (λ (bytes : List ℕ). Sends c.args.sink.now.taken c.put.new.sink.taken c.args.buffer.now.items c.put.new.buffer.items bytes) (sym (printed_same c.args.bytes.now (sym c.if-are_unescaped.ensures))))
    c.put.ensures.sends

pub loop-rest-preserved : goal.loop-rest-preserved
loop-rest-preserved g c = (c.in_ok-rest.ensures.keeps_flag ∙ c.loop-rest.invariant.0, sends_more _ _ _ _ _ _ _ _ _ c.loop-rest.invariant.1 c.in_ok-rest.ensures.sends)

pub returns-then-are_unescaped-clause-loses_rest : goal.returns-then-are_unescaped-clause-loses_rest
returns-then-are_unescaped-clause-loses_rest g c =
    on_err_weaker c.put.result
    (λ front. front_plain _ _ c.args.buffer.now.items c.args.bytes.now (printed_same c.args.bytes.now (sym c.if-are_unescaped.ensures)) front)
    c.put.ensures.loses_rest

pub returns-in_err-rest-clause-loses_rest : goal.returns-in_err-rest-clause-loses_rest
returns-in_err-rest-clause-loses_rest g c =
    let cut = on_err_weaker c.put_run.result
    (λ front. front_left _ _ _ _ _ _ _ c.loop-rest.invariant.1 front)
    c.put_run.ensures.loses_rest in
    search (rules, cut)
