use Rattle.std.proofs.Common.{◌+◌, refl, arith, rules}
use Rattle.cluster.proofs.CleanSteps.{clean_same, no_copy, zero_is}
use Rattle.cluster.proofs.cluster.Cluster.clean.Goals as goal

pub returns-then-len-copy : goal.returns-then-len-copy
returns-then-len-copy g c = (no_copy c.args.self.now c.args.copy c.len.result (search rules) c.if-len-copy.true, refl)

pub returns-in-None : goal.returns-in-None
returns-in-None g c = clean_same _ _ c.args.copy 0 c.args.cleaning _ (zero_is c.args.copy c.in-None.ensures) c.clean_leader.ensures

pub returns-in-Some : goal.returns-in-Some
returns-in-Some g c = clean_same _ _ c.args.copy (c.in-Some.follower + 1) c.args.cleaning _ (omega (arith, c.in-Some.ensures)) c.clean_follower.ensures
