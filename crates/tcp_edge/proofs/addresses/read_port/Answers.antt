use Rattle.tcp_edge.proofs.TextAndNumber.{none_without_colon, none_with_plus, none_without_number}
use Rattle.tcp_edge.proofs.addresses.read_port.Goals as goal

pub returns-in_default : goal.returns-in_default
returns-in_default c = none_without_colon 16 c.args.argument.now c.in_default.ensures.cases

pub returns-then-starts_with : goal.returns-then-starts_with
returns-then-starts_with c =
    none_with_plus 16 c.args.argument.now c.in-Some.front.now c.in-Some.digits.now _ c.in-Some.ensures.cases c.if-starts_with.ensures.cases.1.1

pub returns-in-Err : goal.returns-in-Err
returns-in-Err c =
    none_without_number 16 c.args.argument.now c.in-Some.front.now c.in-Some.digits.now c.in-Some.ensures.cases c.in-Err.ensures.value.0
