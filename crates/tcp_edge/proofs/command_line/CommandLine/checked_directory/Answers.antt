use Rattle.std.proofs.lemmas.Result.{IfOk-weaker}
use Rattle.tcp_edge.proofs.Arguments.{no_directory, directory_found, only_memory_lacks, parsed_err, parsed_ok}
use Rattle.tcp_edge.proofs.command_line.CommandLine.checked_directory.Goals as goal

pub returns-in-Ok-clause-other_has_none : goal.returns-in-Ok-clause-other_has_none
returns-in-Ok-clause-other_has_none g c = λ asks.
    let line = parsed_ok _ c.args.self _ c.in-Ok.asked c.self.view_is c.in-Ok.is c.self.invariant in
    no_directory c.args.self c.in-Ok.asked c.checked_directory.result asks line.asked line.stopped c.checked_directory.ensures

pub returns-in-Ok-clause-is_asked_for : goal.returns-in-Ok-clause-is_asked_for
returns-in-Ok-clause-is_asked_for g c = λ rows finds.
    let line = parsed_ok _ c.args.self _ c.in-Ok.asked c.self.view_is c.in-Ok.is c.self.invariant in
    directory_found c.args.self rows c.in-Ok.asked c.checked_directory.result finds line.asked c.checked_directory.ensures

pub returns-in-Err-clause-is_asked_for : goal.returns-in-Err-clause-is_asked_for
returns-in-Err-clause-is_asked_for g c = λ rows finds.
    let line = parsed_err _ c.args.self _ c.in-Err.why c.self.view_is c.in-Err.is c.self.invariant in
    IfOk-weaker c.nothing_asked.result _ _ (λ directory none. absurd (only_memory_lacks c.args.self rows c.in-Err.why finds line.asked none.1)) c.nothing_asked.ensures
