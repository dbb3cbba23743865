use Rattle.std.proofs.Common.{◌≡◌, ◌+◌, drop, map}
use Rattle.cleaning_policy.specs.Policies.{soonest}
use Rattle.cleaning_policy.proofs.times.old_before.Given as goal

-- the samples that are left give what all give
abbrev pub invariant-loop-sample : goal.invariant-loop-sample
invariant-loop-sample l =
    soonest l.fn.now l.first (map (λ s. s.time + l.fn.lag) (drop l.sample-index l.fn.samples))
    ≡ soonest l.fn.now l.fn.found (map (λ s. s.time + l.fn.lag) l.fn.samples)
