use Rattle.std.proofs.Common.{◌==◌, not, length, rules}
use Rattle.group_coordinator.proofs.Finding.{filter_known}
use Rattle.group_coordinator.proofs.groups.GroupList.drop_empty.Goals as goal

pub refresh-requires : goal.refresh-requires
refresh-requires g c = record {
  known = filter_known c.self.inside.names (λ x. not (0 == length x.members)) c.self.inside.groups.items c.deref.result.now (search rules) c.self.invariant;
}
