use Rattle.std.proofs.Common.{◌/◌, ℕ, List, [], length, ap, arith}
use Rattle.count_list.proofs.Edited.{same_counts, in_front, in_back}
use Rattle.count_list.proofs.blocks.Blocks.make_room.Goals as goal

pub returns-then-place-keep-clause-same : goal.returns-then-place-keep-clause-same
returns-then-place-keep-clause-same g c = same_counts (length c.counts-len.result.now / 2) c.locate-place.result.block c.args.self.now c.split.new.self c.in_ok-back.ensures.splits

pub returns-then-place-keep-clause-place : goal.returns-then-place-keep-clause-place
returns-then-place-keep-clause-place g c =
    let len : ℕ = length c.counts-len.result.now in
    in_front (len / 2) c.locate-place.result.block c.locate-place.result.index c.args.i c.args.self.now c.split.new.self c.locate-place.ensures c.in_ok-back.ensures.splits
    (omega (arith, ap (λ (ys : List ℕ). length ys) (c.counts-len.ensures.counts []))) c.if-place-keep.true

pub returns-clause-same : goal.returns-clause-same
returns-clause-same g c = same_counts (length c.counts-len.result.now / 2) c.locate-place.result.block c.args.self.now c.split.new.self c.in_ok-back.ensures.splits

pub returns-clause-place : goal.returns-clause-place
returns-clause-place g c =
    in_back (length c.counts-len.result.now / 2) c.locate-place.result.block c.in_ok-back.back c.locate-place.result.index c.args.i c.args.self.now c.split.new.self c.locate-place.ensures c.in_ok-back.ensures.splits c.in_ok-back.ensures.next c.if-place-keep.false
