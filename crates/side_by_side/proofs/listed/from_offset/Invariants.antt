use Rattle.std.proofs.Common.{◌≡◌, drop}
use Rattle.delta_bytes.specs.Judging.{offsets_of}
use Rattle.side_by_side.specs.ListWalks.{offsets_from}
use Rattle.side_by_side.proofs.listed.from_offset.Given as goal

abbrev pub invariant-loop-at : goal.invariant-loop-at
invariant-loop-at l = offsets_from l.offset (drop l.at (offsets_of l.offsets)) ≡ offsets_from l.offset (offsets_of l.offsets)
