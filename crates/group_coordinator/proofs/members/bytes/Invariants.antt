use Rattle.std.proofs.Common.{◌≡◌, ◌+◌, drop}
use Rattle.std.specs.List.{sum_by}
use Rattle.group_coordinator.specs.Members.{member_bytes}
use Rattle.group_coordinator.proofs.members.bytes.Given as goal

-- with those that are left they are the bytes of all
abbrev pub invariant-loop-member : goal.invariant-loop-member
invariant-loop-member g l = l.bytes + sum_by member_bytes (drop l.member-index l.members) ≡ sum_by member_bytes l.members
