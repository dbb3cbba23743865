use Rattle.std.proofs.Common.{◌≡◌, drop}
use Rattle.group_coordinator.specs.Least.{earliest, member_times}
use Rattle.group_coordinator.proofs.members.next_time.Given as goal

-- with those that are left it is the least of all
abbrev pub invariant-loop-member : goal.invariant-loop-member
invariant-loop-member g l = earliest l.least (member_times (drop l.member-index l.members)) ≡ earliest l.fn.before (member_times l.members)
