use Rattle.std.proofs.Common.{◌≡◌, ◌+◌, ◌-◌, ◌<◌, length, take}
use Rattle.std.specs.List.{sum}
use Rattle.count_list.proofs.block.find_in.Given as goal

abbrev pub invariant-loop-index : goal.invariant-loop-index
invariant-loop-index l = (l.index < length l.counts) × (sum (take l.index l.counts) + l.rest ≡ l.n)

abbrev pub decreases-loop-index : goal.decreases-loop-index
decreases-loop-index l = length l.counts - l.index
