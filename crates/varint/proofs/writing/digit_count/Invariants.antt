use Rattle.std.proofs.Common.{◌≡◌, ◌-◌, ◌*◌, ◌+◌, ◌^◌, ◌<◌, ◌≤◌, length}
use Rattle.varint.specs.Encoding.{digits}
use Rattle.varint.proofs.writing.digit_count.Given as goal

abbrev pub invariant-loop-rest : goal.invariant-loop-rest
invariant-loop-rest l = (l.others ≤ 9) × (l.rest < 2 ^ (64 - 7 * l.others)) × (l.others + length (digits (9 - l.others) l.rest) ≡ length (digits 9 l.number))

abbrev pub decreases-loop-rest : goal.decreases-loop-rest
decreases-loop-rest l = l.rest
