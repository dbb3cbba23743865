use Rattle.cleaning_policy.proofs.Sampling.{AreYoung}
use Rattle.cleaning_policy.proofs.samples.asked_count.Given as goal

abbrev pub invariant-loop-i : goal.invariant-loop-i
invariant-loop-i l = AreYoung l.fn.lag l.fn.now l.i l.fn.samples
