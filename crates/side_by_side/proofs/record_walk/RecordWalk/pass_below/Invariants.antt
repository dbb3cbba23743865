use Rattle.std.proofs.Common.{◌≡◌, length}
use Rattle.side_by_side.specs.RecordWalks.{from_delta}
use Rattle.side_by_side.proofs.record_walk.RecordWalk.pass_below.Given as goal

abbrev pub invariant-loop-self : goal.invariant-loop-self
invariant-loop-self l = from_delta l.delta l.self ≡ from_delta l.delta l.fn.self

abbrev pub decreases-loop-self : goal.decreases-loop-self
decreases-loop-self l = length l.self
