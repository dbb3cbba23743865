use Rattle.std.proofs.Common.{refl, map, ap}
use Rattle.cluster.proofs.ImageSteps.{after_merge, agrees_with_image, no_image}
use Rattle.cluster.proofs.EventSteps.{no_merge}
use Rattle.cluster.proofs.cluster.Cluster.merge.Goals as goal

pub merge_image-requires : goal.merge_image-requires
merge_image-requires g c =
    agrees_with_image _ c.args.self.now c.args.copy c.in_ok-follower.follower c.args.image c.index_mut.result.now c.in-Some.image.now (map (λ image. image.items) c.deref.result.now) c.self.view_is c.self.invariant
    c.in_ok-follower.ensures.follows.0 c.in_ok-follower.ensures.follows.1 c.index_mut.ensures.value (ap (λ images. map (λ image. image.items) images) c.deref.ensures.value) c.in-Some.ensures

pub invariant_of-self : goal.invariant_of-self
invariant_of-self g c =
    (after_merge _ c.args.self.now c.args.copy c.in_ok-follower.follower c.args.image c.index_mut.result.now c.merge_image.new.copy c.in-Some.image.now (map (λ image. image.items) c.deref.result.now) c.merge_image.result
    c.self.view_is c.self.invariant c.in_ok-follower.ensures.follows.0 c.in_ok-follower.ensures.follows.1 c.index_mut.ensures.value (ap (λ images. map (λ image. image.items) images) c.deref.ensures.value) c.in-Some.ensures
    c.merge_image.ensures).0

pub returns-in-Some : goal.returns-in-Some
returns-in-Some g c =
    (after_merge _ c.args.self.now c.args.copy c.in_ok-follower.follower c.args.image c.index_mut.result.now c.merge_image.new.copy c.in-Some.image.now (map (λ image. image.items) c.deref.result.now) c.merge_image.result
    c.self.view_is c.self.invariant c.in_ok-follower.ensures.follows.0 c.in_ok-follower.ensures.follows.1 c.index_mut.ensures.value (ap (λ images. map (λ image. image.items) images) c.deref.ensures.value) c.in-Some.ensures
    c.merge_image.ensures).1

pub returns-in-None : goal.returns-in-None
returns-in-None g c = (
  no_image _ c.args.self.now c.args.copy c.in_ok-follower.follower c.args.image (map (λ image. image.items) c.deref.result.now) c.self.view_is
      c.in_ok-follower.ensures.follows.0 c.in_ok-follower.ensures.follows.1 (ap (λ images. map (λ image. image.items) images) c.deref.ensures.value) c.in-None.ensures,
  refl,
)

pub returns-in_err-follower : goal.returns-in_err-follower
returns-in_err-follower g c = no_merge c.args.self.now c.args.copy c.args.image c.from_residual.result c.in_err-follower.field-0.0 c.from_residual.ensures.1 c.in_err-follower.ensures.refuses
