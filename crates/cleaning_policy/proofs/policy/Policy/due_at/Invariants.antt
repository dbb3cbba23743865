use Rattle.std.proofs.Common.{◌≡◌, drop, None}
use Rattle.std.specs.List.{flat_map}
use Rattle.cleaning_policy.specs.Policies.{soonest, moments}
use Rattle.cleaning_policy.proofs.policy.Policy.due_at.Given as goal

-- the partitions that are left give what all give
abbrev pub invariant-loop-part : goal.invariant-loop-part
invariant-loop-part g l =
    soonest l.fn.now l.first (flat_map (moments l.self-inside.settings) (drop l.part-index l.self-inside.parts.items))
    ≡ soonest l.fn.now None (flat_map (moments l.self-inside.settings) l.self-inside.parts.items)
