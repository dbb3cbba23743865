use Rattle.std.proofs.Common.{rules}
use Rattle.listeners.proofs.Largest.{begins, has_most, has_none, is_largest, is_less, is_there}
use Rattle.listeners.proofs.addresses.Addresses.largest.Goals as goal

pub loop-address-init : goal.loop-address-init
loop-address-init g c = begins g.met.K.Eq.laws c.args.self.now c.into_iter-address-iterator.result (search rules) (search rules)

pub loop-address-preserved-then-share-most : goal.loop-address-preserved-then-share-most
loop-address-preserved-then-share-most g c = is_largest g.met.K.Eq.laws c.args.self.now c.loop-address.largest c.loop-address.most c.in-Some.address.now c.in-Some.share.now _ _ c.in-Some.ensures.steps c.loop-address.invariant (search rules)

pub loop-address-preserved : goal.loop-address-preserved
loop-address-preserved g c = is_less g.met.K.Eq.laws c.args.self.now c.loop-address.largest c.loop-address.most c.in-Some.address.now c.in-Some.share.now _ _ c.in-Some.ensures.steps c.loop-address.invariant c.if-share-most.false

pub returns-clause-there : goal.returns-clause-there
returns-clause-there g c = is_there g.met.K.Eq.laws c.args.self.now c.loop-address.largest c.loop-address.most c.loop-address.address-iterator c.in-None.ensures.steps.0 c.loop-address.invariant

pub returns-clause-most : goal.returns-clause-most
returns-clause-most g c = has_most g.met.K.Eq.laws c.args.self.now c.loop-address.largest c.loop-address.most c.loop-address.address-iterator c.in-None.ensures.steps.0 c.loop-address.invariant

pub returns-clause-none : goal.returns-clause-none
returns-clause-none g c = has_none g.met.K.Eq.laws c.args.self.now c.loop-address.largest c.loop-address.most c.loop-address.address-iterator c.in-None.ensures.steps.0 c.loop-address.invariant
