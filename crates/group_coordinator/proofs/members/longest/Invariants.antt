use Rattle.std.proofs.Common.{◌≡◌, drop, max}
use Rattle.std.specs.List.{fold}
use Rattle.group_coordinator.specs.Groups.{longest}
use Rattle.group_coordinator.proofs.members.longest.Given as goal

-- with those that are left it is the longest of all
abbrev pub invariant-loop-member : goal.invariant-loop-member
invariant-loop-member g l = fold (λ t m. max t m.rebalance) l.time (drop l.member-index l.members) ≡ longest l.members
