use Rattle.std.proofs.Common.{map}
use Rattle.std.proofs.lemmas.Result.{IfOk-weaker}
use Rattle.tcp_edge.proofs.Arguments.{found_rows, only_memory, subcommand_named, if_subcommand_named, no_stop, stop_said}
use Rattle.tcp_edge.proofs.asked.parse.Goals as goal

pub returns-in-Err-clause-asked : goal.returns-in-Err-clause-asked
returns-in-Err-clause-asked g c = λ name rows finds. only_memory _ c.in_ok-command.ensures.0 (map g.S.AsStr.text c.args.arguments.now) c.in-Err.error name rows
    c.in_ok-command.ensures.1 c.in_ok-command.ensures.2 finds c.in-Err.ensures.kinds

pub returns-in-Ok-clause-asked : goal.returns-in-Ok-clause-asked
returns-in-Ok-clause-asked g c = λ name rows finds. c.asked_by.ensures.asked name rows
    (found_rows _ c.in_ok-command.ensures.0 (map g.S.AsStr.text c.args.arguments.now) c.in-Ok.matches name rows
    c.in_ok-command.ensures.1 c.in_ok-command.ensures.2 finds c.in-Ok.ensures.matches)

pub returns-in-Ok-clause-named : goal.returns-in-Ok-clause-named
returns-in-Ok-clause-named g c = IfOk-weaker c.asked_by.result _ _ (λ asked named. if_subcommand_named asked _ _ named
    (λ name is. subcommand_named _ c.in_ok-command.ensures.0 (map g.S.AsStr.text c.args.arguments.now) c.in-Ok.matches
    c.in_ok-command.ensures.1 c.in_ok-command.ensures.2 c.in-Ok.ensures.matches c.in-Ok.ensures.kinds name is)) c.asked_by.ensures.named

pub returns-in-Ok-clause-stopped : goal.returns-in-Ok-clause-stopped
returns-in-Ok-clause-stopped g c = λ kinds stops. absurd (no_stop _ c.in_ok-command.ensures.0 (map g.S.AsStr.text c.args.arguments.now) kinds
    c.in_ok-command.ensures.1 c.in_ok-command.ensures.2 stops c.in-Ok.ensures.kinds)

pub returns-in-Err-clause-stopped : goal.returns-in-Err-clause-stopped
returns-in-Err-clause-stopped g c = λ kinds stops. stop_said _ c.in_ok-command.ensures.0 (map g.S.AsStr.text c.args.arguments.now) kinds c.in-Err.error
    c.in_ok-command.ensures.1 c.in_ok-command.ensures.2 stops c.in-Err.ensures.kinds
