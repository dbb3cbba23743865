use Rattle.std.proofs.Common.{◌≡◌, drop}
use Rattle.cleaning_policy.specs.Samples.{old_sample}
use Rattle.cleaning_policy.proofs.samples.old_sample.Given as goal

-- the samples that are left give what all give
abbrev pub invariant-loop-sample : goal.invariant-loop-sample
invariant-loop-sample l = old_sample l.lag l.now (drop l.sample-index l.samples) ≡ old_sample l.fn.lag l.fn.now l.fn.samples
