use Rattle.copy_images.specs.Judging.{ranges_of}
use Rattle.delta_bytes.proofs.Walk.{IsWalked}
use Rattle.delta_bytes.proofs.counted.judge_entries.Given as goal

abbrev pub invariant-loop-index : goal.invariant-loop-index
invariant-loop-index l = IsWalked (ranges_of l.ranges) (ranges_of l.asked) l.bytes l.index l.low l.rest (ranges_of l.ranges_left) (ranges_of l.asked_left)
