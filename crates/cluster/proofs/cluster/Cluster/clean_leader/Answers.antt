use Rattle.cluster.proofs.CleanSteps.{after_leader_clean}
use Rattle.cluster.proofs.cluster.Cluster.clean_leader.Goals as goal

pub invariant_of-self : goal.invariant_of-self
invariant_of-self g c = (after_leader_clean _ c.args.self.now c.args.cleaning c.clean_log.new.log c.clean_log.result c.outcome.result c.self.view_is c.self.invariant
    c.clean_log.ensures.cleans c.clean_log.ensures.reports c.clean_log.ensures.unchanged_on_error c.outcome.ensures).0

pub returns : goal.returns
returns g c = (after_leader_clean _ c.args.self.now c.args.cleaning c.clean_log.new.log c.clean_log.result c.outcome.result c.self.view_is c.self.invariant
    c.clean_log.ensures.cleans c.clean_log.ensures.reports c.clean_log.ensures.unchanged_on_error c.outcome.ensures).1
