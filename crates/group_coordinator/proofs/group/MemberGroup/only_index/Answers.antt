use Rattle.std.proofs.Common.{rules}
use Rattle.group_coordinator.proofs.Rejoining.{only_at}
use Rattle.group_coordinator.proofs.group.MemberGroup.only_index.Goals as goal

pub returns-in-None : goal.returns-in-None
returns-in-None g c = only_at c.args.id.now c.args.self.now.members c.deref-2.result.now c.in_ok-index.index c.member_index-2.result (search rules) (search rules) c.member_index-2.ensures (search rules)
