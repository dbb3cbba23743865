use Rattle.std.proofs.Common.{◌≡◌, ◌<◌, List, length, Some, ap, sym, refl, ◌∙◌, arith}
use Rattle.std.specs.Prelude.{slice_get}
use Rattle.batch_codec.specs.Values.{BatchValue}
use Rattle.cluster.specs.Worlds.{World}
use Rattle.cluster.proofs.EventSteps.{at_index, on_log, follower_copy, after_delivery, no_batch, no_delivery}
use Rattle.cluster.proofs.cluster.Cluster.deliver.Goals as goal

pub deliver_to-requires : goal.deliver_to-requires
deliver_to-requires g c =
    let followers = c.self.inside.followers.items in
    let lt : c.in_ok-follower.follower < length followers = omega (arith, c.in_ok-follower.ensures.follows.1, ap (λ (w : World). length w.followers) c.self.view_is) in
    let there = at_index followers c.in_ok-follower.follower c.index_mut.result.now lt c.index_mut.ensures.value in
    let on : slice_get c.self.inside.archive.items c.args.batch ≡ Some c.in-Some.batch = ap (λ (xs : List BatchValue). slice_get xs c.args.batch) (sym c.deref.ensures.value) ∙ sym c.in-Some.ensures in (
      c.self.inside.archive.items,
      c.self.invariant.plain,
      follower_copy _ c.self.invariant c.args.copy c.in_ok-follower.follower c.args.batch c.index_mut.result.now c.in_ok-follower.ensures.follows.0 there,
      on_log c.self.inside.archive.items c.args.batch c.in-Some.batch c.self.invariant.plain on,
    )

pub invariant_of-self : goal.invariant_of-self
invariant_of-self g c = (after_delivery _ c.args.self.now c.args.copy c.in_ok-follower.follower c.args.batch c.index_mut.result.now c.deliver_to.new.copy c.in-Some.batch c.deref.result.now c.deliver_to.result
    c.self.view_is c.self.invariant c.in_ok-follower.ensures.follows.0 c.in_ok-follower.ensures.follows.1 c.index_mut.ensures.value c.deref.ensures.value c.in-Some.ensures c.deliver_to.ensures).0

pub returns-in-Some : goal.returns-in-Some
returns-in-Some g c = (after_delivery _ c.args.self.now c.args.copy c.in_ok-follower.follower c.args.batch c.index_mut.result.now c.deliver_to.new.copy c.in-Some.batch c.deref.result.now c.deliver_to.result
    c.self.view_is c.self.invariant c.in_ok-follower.ensures.follows.0 c.in_ok-follower.ensures.follows.1 c.index_mut.ensures.value c.deref.ensures.value c.in-Some.ensures c.deliver_to.ensures).1

pub returns-in-None : goal.returns-in-None
returns-in-None g c = (
  no_batch _ c.args.self.now c.args.copy c.in_ok-follower.follower c.args.batch c.deref.result.now
      c.self.view_is c.in_ok-follower.ensures.follows.0 c.in_ok-follower.ensures.follows.1 c.deref.ensures.value (sym (sym c.archived_at.ensures ∙ c.in-None.is)),
  refl,
)

pub returns-in_err-follower : goal.returns-in_err-follower
returns-in_err-follower g c = no_delivery c.args.self.now c.args.copy c.args.batch c.from_residual.result c.in_err-follower.field-0.0 c.from_residual.ensures.1 c.in_err-follower.ensures.refuses
