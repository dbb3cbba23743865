use Rattle.std.specs.Int.{w64}
use Rattle.std.proofs.lemmas.Int.{to_z-of_z}
use Rattle.cluster.proofs.TrimSteps.{after_leader_trimming}
use Rattle.cluster.proofs.cluster.Cluster.trim_leader.Goals as goal

pub invariant_of-self : goal.invariant_of-self
invariant_of-self g c = (after_leader_trimming _ c.args.self.now c.args.start _ c.trim.new.self c.trim.result c.outcome.result c.self.view_is c.self.invariant (to_z-of_z w64 c.args.start c.ranges.start)
    (record { trims = c.trim.ensures.trims; accepts = c.trim.ensures.accepts; refuses = c.trim.ensures.refuses; unchanged = c.trim.ensures.unchanged_on_error; takes_no_memory = c.trim.ensures.takes_no_memory }) c.outcome.ensures).0

pub returns : goal.returns
returns g c = (after_leader_trimming _ c.args.self.now c.args.start _ c.trim.new.self c.trim.result c.outcome.result c.self.view_is c.self.invariant (to_z-of_z w64 c.args.start c.ranges.start)
    (record { trims = c.trim.ensures.trims; accepts = c.trim.ensures.accepts; refuses = c.trim.ensures.refuses; unchanged = c.trim.ensures.unchanged_on_error; takes_no_memory = c.trim.ensures.takes_no_memory }) c.outcome.ensures).1
