use Rattle.std.proofs.Common.{◌≡◌, min, take}
use Rattle.group_coordinator.specs.Giving.{part_lengths}
use Rattle.group_coordinator.proofs.parts.part_bytes.Given as goal

-- what those before the index have
abbrev pub invariant-loop-member : goal.invariant-loop-member
invariant-loop-member g l = l.bytes ≡ min (part_lengths (take l.member-index l.members)) 18446744073709551615
