use Rattle.tcp_edge.proofs.calls.serve_port.Goals as goal

pub returns-clause-other_has_none : goal.returns-clause-other_has_none
returns-clause-other_has_none g c = rw (← c.parse.ensures) c.serve_port-2.ensures.other_has_none
