use Rattle.cluster.proofs.CleanSteps.{after_follower_clean}
use Rattle.cluster.proofs.cluster.Cluster.clean_follower.Goals as goal

pub invariant_of-self : goal.invariant_of-self
invariant_of-self g c = (after_follower_clean _ c.args.self.now c.args.follower c.args.cleaning c.index_mut.result.now c.clean_copy.new.copy c.clean_copy.result c.outcome.result c.self.view_is c.self.invariant
    c.requires c.index_mut.ensures.value c.clean_copy.ensures.cleans c.clean_copy.ensures.reports c.clean_copy.ensures.unchanged_on_error c.outcome.ensures).0

pub returns : goal.returns
returns g c = (after_follower_clean _ c.args.self.now c.args.follower c.args.cleaning c.index_mut.result.now c.clean_copy.new.copy c.clean_copy.result c.outcome.result c.self.view_is c.self.invariant
    c.requires c.index_mut.ensures.value c.clean_copy.ensures.cleans c.clean_copy.ensures.reports c.clean_copy.ensures.unchanged_on_error c.outcome.ensures).1
