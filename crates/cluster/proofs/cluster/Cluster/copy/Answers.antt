use Rattle.std.proofs.Common.{ap, ◌∙◌, arith, rules}
use Rattle.std.specs.Prelude.{slice_get}
use Rattle.cluster.proofs.EventSteps.{follower_at, found_at}
use Rattle.cluster.proofs.cluster.Cluster.copy.Goals as goal

pub returns-in-None : goal.returns-in-None
returns-in-None c = search rules

pub returns-in-Some : goal.returns-in-Some
returns-in-Some g c = follower_at _ c.args.self.now c.args.copy c.in-Some.follower _ c.self.view_is (omega (arith, c.in-Some.ensures))
    (found_at _ c.get.result c.deref.result.now c.in-Some.follower c.get.ensures.lookup.3 c.get.ensures.lookup.1 ∙ ap (λ xs. slice_get xs c.in-Some.follower) c.deref.ensures.value)
