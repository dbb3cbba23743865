use Rattle.std.proofs.Common.{rules}
use Rattle.std.specs.Int.{w32}
use Rattle.std.proofs.lemmas.Int.{to_z-of_z}
use Rattle.group_coordinator.proofs.Asking.{heartbeat_refused, heartbeat_done}
use Rattle.group_coordinator.proofs.coordinator.Coordinator.heartbeat.Goals as goal

pub returns-in-Some : goal.returns-in-Some
returns-in-Some g c =
    heartbeat_refused c.args.self.now c.args.group.now c.args.member.now c.args.generation _ c.member_fault.result c.in-Some.error (to_z-of_z w32 c.args.generation c.ranges.generation)
    c.member_fault.ensures (search rules)

pub returns-in-None : goal.returns-in-None
returns-in-None g c =
    heartbeat_done c.args.self.now c.hear.new.self c.args.group.now c.args.member.now c.args.generation _ c.member_fault.result c.hear.result (to_z-of_z w32 c.args.generation c.ranges.generation)
    c.member_fault.ensures (search rules) c.hear.ensures.tells c.hear.ensures.hears
