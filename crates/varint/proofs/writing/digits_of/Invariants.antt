use Rattle.std.proofs.Common.{◌≡◌, ◌-◌, ◌*◌, ◌^◌, ◌<◌, ◌≤◌, ◌++◌, length, take}
use Rattle.varint.specs.Encoding.{digits}
use Rattle.varint.proofs.writing.digits_of.Given as goal

abbrev pub invariant-loop-rest : goal.invariant-loop-rest
invariant-loop-rest l = (length l.bytes ≡ 10) × (l.used ≤ 9) × (l.rest < 2 ^ (64 - 7 * l.used)) × (take l.used l.bytes ++ digits (9 - l.used) l.rest ≡ digits 9 l.number)

abbrev pub decreases-loop-rest : goal.decreases-loop-rest
decreases-loop-rest l = l.rest
