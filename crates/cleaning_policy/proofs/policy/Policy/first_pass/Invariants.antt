use Rattle.std.proofs.Common.{◌≡◌, ◌-◌, length, drop}
use Rattle.cleaning_policy.specs.Policies.{first_pass}
use Rattle.cleaning_policy.proofs.policy.Policy.first_pass.Given as goal

-- the partitions that are left give what all give
abbrev pub invariant-loop-i : goal.invariant-loop-i
invariant-loop-i g l =
    first_pass l.self-inside.settings l.now l.i (drop l.i l.self-inside.parts.items)
    ≡ first_pass l.self-inside.settings l.fn.now l.fn.from (drop l.fn.from l.self-inside.parts.items)

abbrev pub decreases-loop-i : goal.decreases-loop-i
decreases-loop-i g l = length l.self-inside.parts.items - l.i
