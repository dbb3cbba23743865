use Rattle.std.proofs.Common.{rules}
use Rattle.group_coordinator.proofs.Giving.{gets_next, gets_all}
use Rattle.group_coordinator.proofs.parts.give.Goals as goal

pub loop-member-preserved : goal.loop-member-preserved
loop-member-preserved g c = λ ps same.
    gets_next c.args.now ps c.args.members.now c.loop-member.members c.loop-member.member-index c.member-item.result c.give_next.new.member c.loop-member.given c.give_next.new.given (search rules) c.member-item.is
    c.give_next.ensures.gives c.give_next.ensures.rest (c.loop-member.invariant ps same)

pub returns : goal.returns
returns g c = λ ps same. gets_all c.args.now ps c.args.members.now c.loop-member.members c.loop-member.member-index c.loop-member.given (search rules) (c.loop-member.invariant ps same)
