use Rattle.std.proofs.Common.{◌-◌, map, ap}
use Rattle.cluster.proofs.ImageSteps.{new_consistent}
use Rattle.cluster.proofs.Headlines.{headline_of}
use Rattle.cluster.proofs.cluster.Cluster.new.Goals as goal

pub invariant_of-cluster : goal.invariant_of-cluster
invariant_of-cluster g c =
    new_consistent c.new.result.items c.empty_leader.result c.in-Ok.followers.items (map (λ image. image.items) c.new-2.result.items) (c.args.copies - 1) c.new.ensures.items c.empty_leader.ensures c.in-Ok.ensures
    (ap (λ images. map (λ image. image.items) images) c.new-2.ensures.items) c.an_empty_copy_is_a_copy.ensures.content c.an_empty_copy_is_a_copy.ensures.copy

pub returns-clause-headline : goal.returns-clause-headline
returns-clause-headline g c = headline_of _ c.know_consistent.ensures
