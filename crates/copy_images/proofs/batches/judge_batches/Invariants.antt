use Rattle.std.proofs.Common.{◌≡◌}
use Rattle.checksum.specs.Crc.{feed_bytes}
use Rattle.copy_images.specs.Judging.{ranges_of}
use Rattle.copy_images.proofs.Judged.{IsJudged}
use Rattle.copy_images.proofs.batches.judge_batches.Given as goal

abbrev pub invariant-loop-index : goal.invariant-loop-index
invariant-loop-index l =
    IsJudged (ranges_of l.ranges) l.bytes l.index l.from l.rest (ranges_of l.left) ×
    (feed_bytes l.crc l.rest ≡ feed_bytes l.fn.crc l.bytes)
