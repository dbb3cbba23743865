use Rattle.std.proofs.lemmas.Result.{IfOk-weaker}
use Rattle.tcp_edge.proofs.Arguments.{no_start, no_starter, parsed_err, parsed_ok, start_found}
use Rattle.tcp_edge.proofs.command_line.CommandLine.start_options.Goals as goal

pub returns-in-Ok-clause-other_has_none : goal.returns-in-Ok-clause-other_has_none
returns-in-Ok-clause-other_has_none g c = λ asks.
    let line = parsed_ok _ c.args.self _ c.in-Ok.asked c.self.view_is c.in-Ok.is c.self.invariant in
    no_start c.args.self c.in-Ok.asked c.start_options.result asks line.asked line.stopped c.start_options.ensures

pub returns-in-Ok-clause-is_asked_for : goal.returns-in-Ok-clause-is_asked_for
returns-in-Ok-clause-is_asked_for g c = λ rows finds.
    let line = parsed_ok _ c.args.self _ c.in-Ok.asked c.self.view_is c.in-Ok.is c.self.invariant in
    start_found c.args.self rows c.in-Ok.asked c.start_options.result finds line.asked c.start_options.ensures

pub returns-in-Err-clause-is_asked_for : goal.returns-in-Err-clause-is_asked_for
returns-in-Err-clause-is_asked_for g c = λ rows finds.
    let line = parsed_err _ c.args.self _ c.in-Err.why c.self.view_is c.in-Err.is c.self.invariant in
    IfOk-weaker c.nothing_asked.result _ _ (λ options none. no_starter c.args.self rows c.in-Err.why options finds line.asked none) c.nothing_asked.ensures
