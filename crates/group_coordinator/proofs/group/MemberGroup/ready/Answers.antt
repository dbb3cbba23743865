use Rattle.std.proofs.Common.{rules}
use Rattle.group_coordinator.proofs.Readiness.{member_ready, member_unready, member_is_some, member_is_none}
use Rattle.group_coordinator.proofs.group.MemberGroup.ready.Goals as goal

pub returns-in-Some : goal.returns-in-Some
returns-in-Some g c =
    record {
      gives = member_ready c.args.session c.args.index c.in-Some.member c.args.self.now c.index.result.now c.ready_as.result (search rules) (search rules) c.ready_as.ensures;
      if_any = member_is_some c.args.session c.args.index c.in-Some.member c.args.self.now c.index.result.now c.ready_as.result (search rules) (search rules) c.ready_as.ensures;
    }

pub returns-in-None : goal.returns-in-None
returns-in-None g c = record {
  gives = member_unready c.args.session c.args.index c.args.self.now (search rules);
  if_any = member_is_none c.args.session c.args.self.now (search rules);
}
