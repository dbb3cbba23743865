use Rattle.std.proofs.Common.{map, refl}
use Rattle.cluster.proofs.ImageSteps.{after_kept}
use Rattle.cluster.proofs.cluster.Cluster.send.Goals as goal

pub invariant_of-self : goal.invariant_of-self
invariant_of-self g c =
    (after_kept _ c.args.self.now c.args.copy c.in-Ok.image.items (map (λ image. image.items) c.keep_image.new.images.items) c.keep_image.result c.self.view_is c.self.invariant c.in-Ok.ensures.writes c.keep_image.ensures).0

pub returns : goal.returns
returns g c =
    (after_kept _ c.args.self.now c.args.copy c.in-Ok.image.items (map (λ image. image.items) c.keep_image.new.images.items) c.keep_image.result c.self.view_is c.self.invariant c.in-Ok.ensures.writes c.keep_image.ensures).1

pub returns-in-Err : goal.returns-in-Err
returns-in-Err g c = (c.in-Err.ensures.refuses, refl)
