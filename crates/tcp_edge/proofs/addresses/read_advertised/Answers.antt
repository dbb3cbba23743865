use Rattle.tcp_edge.proofs.Hosts.{no_port, no_host}
use Rattle.tcp_edge.proofs.addresses.read_advertised.Goals as goal

pub returns-in_default-clause-fault : goal.returns-in_default-clause-fault
returns-in_default-clause-fault c = no_port c.args.argument.now c.in_default.ensures

pub returns-then-is_no_host-clause-fault : goal.returns-then-is_no_host-clause-fault
returns-then-is_no_host-clause-fault c = no_host c.args.argument.now c.in-Some.front.now _ c.in-Some.ensures c.if-is_no_host.ensures
