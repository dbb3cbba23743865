use Rattle.std.proofs.Common.{rules, [], ◌∷◌}
use Rattle.std.proofs.lemmas.Result.{on_ok_weaker, on_err_weaker}
use Rattle.table_lines.specs.Lines.{printed}
use Rattle.table_lines.proofs.Sending.{sends_then, front_then, front_key, front_sign, front_value}
use Rattle.table_lines.proofs.lines.put_line.Goals as goal

pub returns-clause-sends : goal.returns-clause-sends
returns-clause-sends g c =
    on_ok_weaker c.put-2.result
    (λ end. sends_then _ _ _ _ _ _ _ _ (sends_then _ _ _ _ _ _ _ _ c.in_ok-put_printed.ensures.sends (sends_then _ _ _ _ _ _ _ _ c.in_ok-put.ensures.sends c.in_ok-put_printed-2.ensures.sends)) end)
    c.put-2.ensures.sends

pub returns-in_err-put_printed-clause-loses_rest : goal.returns-in_err-put_printed-clause-loses_rest
returns-in_err-put_printed-clause-loses_rest g c =
    let cut = on_err_weaker c.put_printed.result
    (λ front. front_key _ _ c.args.buffer.now.items (printed c.args.key.now) (0x3d ∷ []) (printed c.args.value.now) (10 ∷ []) front)
    c.put_printed.ensures.loses_rest in
    search (rules, cut)

pub returns-in_err-put-clause-loses_rest : goal.returns-in_err-put-clause-loses_rest
returns-in_err-put-clause-loses_rest g c =
    let cut = on_err_weaker c.put.result
    (λ front. front_sign _ _ _ c.args.buffer.now.items _ (printed c.args.key.now) (0x3d ∷ []) (printed c.args.value.now) (10 ∷ []) c.in_ok-put_printed.ensures.sends front)
    c.put.ensures.loses_rest in
    search (rules, cut)

pub returns-in_err-put_printed-2-clause-loses_rest : goal.returns-in_err-put_printed-2-clause-loses_rest
returns-in_err-put_printed-2-clause-loses_rest g c =
    let cut = on_err_weaker c.put_printed-2.result
    (λ front. front_value _ _ _ _ c.args.buffer.now.items _ _ (printed c.args.key.now) (0x3d ∷ []) (printed c.args.value.now) (10 ∷ []) c.in_ok-put_printed.ensures.sends c.in_ok-put.ensures.sends front)
    c.put_printed-2.ensures.loses_rest in
    search (rules, cut)

pub returns-clause-loses_rest : goal.returns-clause-loses_rest
returns-clause-loses_rest g c =
    on_err_weaker c.put-2.result
    (λ front. front_then _ _ _ _ _ _ _ (sends_then _ _ _ _ _ _ _ _ c.in_ok-put_printed.ensures.sends (sends_then _ _ _ _ _ _ _ _ c.in_ok-put.ensures.sends c.in_ok-put_printed-2.ensures.sends)) front)
    c.put-2.ensures.loses_rest
