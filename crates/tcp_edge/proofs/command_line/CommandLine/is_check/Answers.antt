use Rattle.tcp_edge.proofs.Arguments.{no_check_said, parsed_ok}
use Rattle.tcp_edge.proofs.command_line.CommandLine.is_check.Goals as goal

pub returns-in-Ok : goal.returns-in-Ok
returns-in-Ok g c = record {
  other_is_not = λ asks.
      let line = parsed_ok _ c.args.self.now _ c.in-Ok.asked c.self.view_is c.in-Ok.is c.self.invariant in
      no_check_said c.args.self.now c.in-Ok.asked c.is_check.result asks line.asked line.stopped c.is_check.ensures;
}
