use Rattle.listeners.proofs.Largest.{Walking}
use Rattle.listeners.proofs.addresses.Addresses.largest.Given as goal

abbrev pub invariant-loop-address : goal.invariant-loop-address
invariant-loop-address g l = Walking g.met.K.Eq.laws l.fn.self l.largest l.most l.address-iterator
