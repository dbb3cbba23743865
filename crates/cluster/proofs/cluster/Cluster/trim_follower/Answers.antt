use Rattle.std.specs.Int.{w64}
use Rattle.std.proofs.lemmas.Int.{to_z-of_z}
use Rattle.cluster.proofs.TrimSteps.{after_follower_trimming}
use Rattle.cluster.proofs.cluster.Cluster.trim_follower.Goals as goal

pub invariant_of-self : goal.invariant_of-self
invariant_of-self g c =
    (after_follower_trimming _ c.args.self.now c.args.follower c.args.start _ c.index_mut.result.now c.trim.new.self c.trim.result c.outcome.result c.self.view_is c.self.invariant
    (to_z-of_z w64 c.args.start c.ranges.start) c.requires c.index_mut.ensures.value
    (record { trims = c.trim.ensures.trims; accepts = c.trim.ensures.accepts; refuses = c.trim.ensures.refuses; unchanged = c.trim.ensures.unchanged_on_error; takes_no_memory = c.trim.ensures.takes_no_memory }) c.outcome.ensures).0

pub returns : goal.returns
returns g c =
    (after_follower_trimming _ c.args.self.now c.args.follower c.args.start _ c.index_mut.result.now c.trim.new.self c.trim.result c.outcome.result c.self.view_is c.self.invariant
    (to_z-of_z w64 c.args.start c.ranges.start) c.requires c.index_mut.ensures.value
    (record { trims = c.trim.ensures.trims; accepts = c.trim.ensures.accepts; refuses = c.trim.ensures.refuses; unchanged = c.trim.ensures.unchanged_on_error; takes_no_memory = c.trim.ensures.takes_no_memory }) c.outcome.ensures).1
