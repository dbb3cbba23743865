use Rattle.tcp_edge.proofs.Arguments.{no_options, options_found, parsed_ok}
use Rattle.tcp_edge.proofs.command_line.CommandLine.serve_options.Goals as goal

pub returns-in-Ok-clause-other : goal.returns-in-Ok-clause-other
returns-in-Ok-clause-other g c = λ asks.
    let line = parsed_ok _ c.args.self _ c.in-Ok.asked c.self.view_is c.in-Ok.is c.self.invariant in
    no_options c.args.self c.in-Ok.asked c.serve_options.result asks line.asked line.stopped c.serve_options.ensures

pub returns-in-Ok-clause-serve : goal.returns-in-Ok-clause-serve
returns-in-Ok-clause-serve g c = λ rows finds.
    let line = parsed_ok _ c.args.self _ c.in-Ok.asked c.self.view_is c.in-Ok.is c.self.invariant in
    options_found c.args.self rows c.in-Ok.asked c.serve_options.result finds line.asked c.serve_options.ensures
