use Rattle.std.proofs.Common.{ℕ, ◌+◌, ◌≤◌, length, sym, ap, subst, ◌∙◌}
use Rattle.cluster.proofs.EventLists.{none_run, one_more, all_run}
use Rattle.cluster.proofs.Headlines.{headline_of}
use Rattle.cluster.proofs.OnTheWay.{on_the_way}
use Rattle.cluster.proofs.cluster.Cluster.run.Goals as goal

pub loop-event-init : goal.loop-event-init
loop-event-init g c = (none_run g.row.A.Denot c.args.self.now c.in_ok-results.results.items c.in_ok-results.ensures.items, c.in_ok-results.ensures.len, c.in_ok-results.ensures.capacity)

pub loop-event-preserved : goal.loop-event-preserved
loop-event-preserved g c = (
  one_more c.args.self.now c.loop-event.self c.act.new.self c.args.events.now c.loop-event.event-index c.loop-event.results.items c.push_reserved.new.self.items c.event-item.result c.event-item.result c.act.result
      c.loop-event-test.true c.event-item.is c.loop-event.invariant.0 c.act.ensures c.push_reserved.ensures.items,
  c.push_reserved.ensures.len ∙ ap (λ (n : ℕ). n + 1) c.loop-event.invariant.1,
  subst (λ (n : ℕ). length c.args.events.now ≤ n) (sym c.push_reserved.ensures.capacity) c.loop-event.invariant.2,
)

pub returns-clause-runs : goal.returns-clause-runs
returns-clause-runs g c = all_run c.args.self.now c.loop-event.self c.args.events.now c.loop-event.event-index c.loop-event.results.items c.loop-event-test.false c.loop-event.invariant.0

pub returns-clause-headline : goal.returns-clause-headline
returns-clause-headline g c = headline_of c.loop-event.self c.know_consistent-2.ensures

pub returns-clause-headline_on_the_way : goal.returns-clause-headline_on_the_way
returns-clause-headline_on_the_way g c =
    on_the_way c.args.self.now c.args.events.now c.loop-event.results.items c.loop-event.self c.know_consistent.ensures
    (all_run c.args.self.now c.loop-event.self c.args.events.now c.loop-event.event-index c.loop-event.results.items c.loop-event-test.false c.loop-event.invariant.0)

pub returns-in_err-results-clause-headline : goal.returns-in_err-results-clause-headline
returns-in_err-results-clause-headline g c = headline_of c.args.self.now c.know_consistent.ensures
