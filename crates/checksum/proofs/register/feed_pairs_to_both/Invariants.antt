use Rattle.std.proofs.Common.{◌≡◌, take}
use Rattle.std.specs.List.{fold}
use Rattle.checksum.specs.Crc.{feed_bytes}
use Rattle.checksum.proofs.register.feed_pairs_to_both.Given as goal

abbrev pub invariant-loop-pair : goal.invariant-loop-pair
invariant-loop-pair l =
    (l.own ≡ fold (fold feed_bytes) l.fn.own (take l.pair-index l.pairs)) ×
    (l.all ≡ fold (fold feed_bytes) l.fn.all (take l.pair-index l.pairs))
