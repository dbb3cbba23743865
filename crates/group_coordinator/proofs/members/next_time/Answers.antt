use Rattle.std.proofs.Common.{refl, rules, drop_of_length-le}
use Rattle.group_coordinator.specs.Least.{member_times}
use Rattle.group_coordinator.proofs.Least.{member_step, none_left}
use Rattle.group_coordinator.proofs.members.next_time.Goals as goal

pub loop-member-init : goal.loop-member-init
loop-member-init g c = refl

pub loop-member-preserved : goal.loop-member-preserved
loop-member-preserved g c =
    member_step c.args.members.now c.loop-member.member-index c.member-item.result c.loop-member.least c.next_time-least.result _ (search rules) c.member-item.is c.next_time-least.ensures c.loop-member.invariant

pub returns : goal.returns
returns g c = none_left member_times _ c.loop-member.least _ (drop_of_length-le c.args.members.now (search rules)) refl c.loop-member.invariant
