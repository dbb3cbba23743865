use Rattle.std.proofs.Common.{refl, rules, drop_of_length-le}
use Rattle.std.specs.List.{flat_map}
use Rattle.group_coordinator.specs.Due.{turning_times}
use Rattle.group_coordinator.proofs.Least.{group_step, none_left}
use Rattle.group_coordinator.proofs.groups.due.Goals as goal

pub loop-group-init : goal.loop-group-init
loop-group-init g c = refl

pub loop-group-preserved : goal.loop-group-preserved
loop-group-preserved g c =
    group_step turning_times c.args.groups.now c.loop-group.group-index c.group-item.result c.loop-group.least c.due-least.result _ (search rules) c.group-item.is c.due-least.ensures c.loop-group.invariant

pub returns : goal.returns
returns g c = none_left (flat_map turning_times) _ c.loop-group.least _ (drop_of_length-le c.args.groups.now (search rules)) refl c.loop-group.invariant
