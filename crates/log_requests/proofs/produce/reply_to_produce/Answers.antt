use Rattle.std.proofs.Common.{None, rules, refl}
use Rattle.std.specs.Int.{w32}
use Rattle.std.proofs.lemmas.Int.{to_z-of_z}
use Rattle.request_frames.specs.Produce.{produce_partition, produce_partition_value, produce_view}
use Rattle.responses.specs.Produce.{produced_bytes}
use Rattle.answering.proofs.ToldPlans.{plan_answered_told, plan_responded_told}
use Rattle.broker_state.specs.State.{State}
use Rattle.log_requests.specs.Produce.{produce_plan}
use Rattle.log_requests.proofs.ProduceReplies.{produce_tells, produce_sends, produce_sends_nothing, cut_back}
use Rattle.log_requests.proofs.produce.reply_to_produce.Goals as goal

pub returns-then-request-eq0-clause-responds : goal.returns-then-request-eq0-clause-responds
returns-then-request-eq0-clause-responds g c =
    let s = c.args.state.now in
    let q = produce_view c.args.request.now in
    let made = c.in-Ok.ensures.responds in
    record {
      response = None;
      replies = plan_answered_told (produce_plan s c.args.correlation q) produce_partition _ produce_partition_value (λ (m : State). m) (produce_tells q) s c.respond.new.state c.respond.new.memory _ c.args.request.now.topics made.results None c.respond.new.state
          c.of_all-memory.ensures refl refl (produce_sends_nothing s q c.args.correlation (search rules) c.if-request-eq0.true made.results) refl made.answers;
      appends = cut_back c.args.out.now.items c.reserve.new.self.items c.respond.new.out.items c.truncate.new.self.items _ c.len-start.result c.in_ok-reserve.ensures.items (search rules) made.appends c.truncate.ensures.items;
    }

pub returns-else-request-eq0-clause-responds : goal.returns-else-request-eq0-clause-responds
returns-else-request-eq0-clause-responds g c =
    let s = c.args.state.now in
    let q = produce_view c.args.request.now in
    let n = c.args.correlation in
    plan_responded_told (produce_plan s n q) produce_partition _ produce_partition_value (λ (m : State). m) (produce_tells q) produced_bytes n _ _ _ _ _ _ _ _ _ _ _ c.respond.new.state
    c.of_all-memory.ensures refl refl refl (produce_sends s q n c.if-request-eq0.false c.produce_tail-tail.result c.produce_tail-tail.ensures) (to_z-of_z w32 n c.ranges.correlation) c.in_ok-reserve.ensures.items c.in-Ok.ensures.responds
