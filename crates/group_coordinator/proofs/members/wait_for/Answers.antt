use Rattle.std.proofs.Common.{rules}
use Rattle.std.specs.Prelude.{if◌then◌else◌}
use Rattle.group_coordinator.specs.Members.{has_id}
use Rattle.group_coordinator.specs.Joining.{waits}
use Rattle.group_coordinator.proofs.Places.{changed_more}
use Rattle.group_coordinator.proofs.members.wait_for.Goals as goal

pub loop-member-preserved : goal.loop-member-preserved
loop-member-preserved g c =
    changed_more (λ m. if has_id c.args.id.now m then waits c.args.wait m else m) c.args.members.now c.loop-member.members c.loop-member.member-index c.member-item.result c.wait_if.new.self
    (search rules) c.loop-member.invariant c.member-item.is c.wait_if.ensures
