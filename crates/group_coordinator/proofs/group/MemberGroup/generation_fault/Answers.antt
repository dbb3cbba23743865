use Rattle.std.proofs.Common.{rules}
use Rattle.std.specs.Int.{w32}
use Rattle.std.proofs.lemmas.Int.{to_z-of_z}
use Rattle.group_coordinator.proofs.Places.{fault_some}
use Rattle.group_coordinator.proofs.group.MemberGroup.generation_fault.Goals as goal

pub returns-in-Some : goal.returns-in-Some
returns-in-Some g c =
    fault_some c.args.self.now c.args.generation _ c.args.id.now c.in-Some.index c.told_fault.result (to_z-of_z w32 c.args.generation c.ranges.generation)
    (search rules) c.told_fault.ensures
