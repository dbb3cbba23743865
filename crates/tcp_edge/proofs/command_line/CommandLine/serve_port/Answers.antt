use Rattle.tcp_edge.proofs.Arguments.{no_port_asked, parsed_ok, port_found}
use Rattle.tcp_edge.proofs.command_line.CommandLine.serve_port.Goals as goal

pub returns-in-Ok-clause-other_has_none : goal.returns-in-Ok-clause-other_has_none
returns-in-Ok-clause-other_has_none g c = λ asks.
    let line = parsed_ok _ c.args.self.now _ c.in-Ok.asked c.self.view_is c.in-Ok.is c.self.invariant in
    no_port_asked c.args.self.now c.in-Ok.asked c.serve_port.result asks line.asked line.stopped c.serve_port.ensures

pub returns-in-Ok-clause-is_asked_for : goal.returns-in-Ok-clause-is_asked_for
returns-in-Ok-clause-is_asked_for g c = λ rows finds.
    let line = parsed_ok _ c.args.self.now _ c.in-Ok.asked c.self.view_is c.in-Ok.is c.self.invariant in
    port_found c.args.self.now rows c.in-Ok.asked c.serve_port.result finds line.asked c.serve_port.ensures
