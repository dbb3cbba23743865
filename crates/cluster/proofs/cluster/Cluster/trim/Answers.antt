use Rattle.std.proofs.Common.{◌+◌, refl, arith, rules}
use Rattle.std.specs.Int.{w64}
use Rattle.std.proofs.lemmas.Int.{to_z-of_z}
use Rattle.cluster.proofs.CleanSteps.{no_copy, zero_is}
use Rattle.cluster.proofs.TrimSteps.{trim_same}
use Rattle.cluster.proofs.cluster.Cluster.trim.Goals as goal

pub returns-then-len-copy : goal.returns-then-len-copy
returns-then-len-copy g c = (no_copy c.args.self.now c.args.copy c.len.result (search rules) c.if-len-copy.true, refl)

pub returns-in-None : goal.returns-in-None
returns-in-None g c = trim_same _ _ c.args.copy 0 c.args.start _ _ (zero_is c.args.copy c.in-None.ensures) (to_z-of_z w64 c.args.start c.ranges.start) c.trim_leader.ensures

pub returns-in-Some : goal.returns-in-Some
returns-in-Some g c = trim_same _ _ c.args.copy (c.in-Some.follower + 1) c.args.start _ _ (omega (arith, c.in-Some.ensures)) (to_z-of_z w64 c.args.start c.ranges.start) c.trim_follower.ensures
