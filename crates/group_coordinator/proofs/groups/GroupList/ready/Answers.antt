use Rattle.std.proofs.Common.{rules}
use Rattle.group_coordinator.proofs.Readiness.{group_ready, group_unready, group_is_some, group_is_none}
use Rattle.group_coordinator.proofs.groups.GroupList.ready.Goals as goal

pub returns-in-Some : goal.returns-in-Some
returns-in-Some g c = record {
  gives = group_ready c.args.session c.in-Some.index c.args.self.now c.index.result.now c.ready.result (search rules) (search rules) c.ready.ensures.gives;
  if_any = group_is_some c.args.session c.in-Some.index c.args.self.now c.index.result.now c.ready.result (search rules) (search rules) c.ready.ensures.if_any;
}

pub returns-in-None : goal.returns-in-None
returns-in-None g c = record {
  gives = group_unready c.args.session c.args.self.now (search rules);
  if_any = group_is_none c.args.session c.args.self.now (search rules);
}
