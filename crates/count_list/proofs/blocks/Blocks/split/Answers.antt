use Rattle.std.proofs.Common.{◌≡◌, ◌+◌, ◌∙◌, ℕ, List, [], length, take, get_or, ap, length-take, arith}
use Rattle.std.specs.List.{sum}
use Rattle.std.proofs.lemmas.List.Sums.{sum_by-take-le}
use Rattle.count_list.specs.Blocks.{divided}
use Rattle.count_list.proofs.Running.{start_read, block_ends, length_joined, sum_joined}
use Rattle.count_list.proofs.Edited.{starts_long, blocks_after_split, starts_after_split, length_parts, sum_parts}
use Rattle.count_list.proofs.blocks.Blocks.split.Goals as goal

pub index-requires : goal.index-requires
index-requires g c =
    omega (arith, c.reserve.ensures.len, c.self.inside.firsts.ok.0, starts_long length c.self.inside.blocks.items c.args.self.now c.self.inside.firsts.items c.self.invariant.0 c.self.view_is, c.requires.block)

pub overflow_add-first : goal.overflow_add-first
overflow_add-first g c =
    let first = start_read length c.args.k c.self.inside.blocks.items c.args.self.now c.reserve.new.self.items c.index.result.now c.self.view_is (c.reserve.ensures.items ∙ c.self.invariant.0) c.requires.block c.index.ensures in
    omega (arith, first, block_ends length c.args.self.now c.args.k c.requires.block, length_joined c.args.self.now, c.requires.fits, c.requires.within)

pub index-requires-2 : goal.index-requires-2
index-requires-2 g c =
    omega (arith, c.reserve-2.ensures.len, c.self.inside.sums.ok.0, starts_long sum c.self.inside.blocks.items c.args.self.now c.self.inside.sums.items c.self.invariant.1 c.self.view_is, c.requires.block)

pub sum_of-requires : goal.sum_of-requires
sum_of-requires g c = record {
  fits =
      let part : sum (take c.args.keep c.counts.result.now) ≡ sum (take c.args.keep (get_or c.args.self.now c.args.k [])) = ap (λ (xs : List ℕ). sum (take c.args.keep xs)) (c.counts.ensures.counts [] ∙ ap (λ (bs : List (List ℕ)). get_or bs c.args.k []) (c.reserve-3.ensures.items ∙ c.self.view_is)) in
      omega (arith, part, sum_by-take-le (λ x. x) (get_or c.args.self.now c.args.k []) c.args.keep, block_ends sum c.args.self.now c.args.k c.requires.block, sum_joined c.args.self.now, c.requires.sum_fits);
}

pub overflow_add-sum : goal.overflow_add-sum
overflow_add-sum g c =
    let part : sum (take c.args.keep c.counts.result.now) ≡ sum (take c.args.keep (get_or c.args.self.now c.args.k [])) = ap (λ (xs : List ℕ). sum (take c.args.keep xs)) (c.counts.ensures.counts [] ∙ ap (λ (bs : List (List ℕ)). get_or bs c.args.k []) (c.reserve-3.ensures.items ∙ c.self.view_is)) in
    let start = start_read sum c.args.k c.self.inside.blocks.items c.args.self.now c.reserve-2.new.self.items c.index-2.result.now c.self.view_is (c.reserve-2.ensures.items ∙ c.self.invariant.1) c.requires.block c.index-2.ensures in
    omega (arith, c.sum_of.ensures, start, part, sum_by-take-le (λ x. x) (get_or c.args.self.now c.args.k []) c.args.keep, block_ends sum c.args.self.now c.args.k c.requires.block, sum_joined c.args.self.now, c.requires.sum_fits)

pub insert_reserved-requires-2-clause-within : goal.insert_reserved-requires-2-clause-within
insert_reserved-requires-2-clause-within g c =
    omega (arith, c.reserve.ensures.len, c.self.inside.firsts.ok.0, starts_long length c.self.inside.blocks.items c.args.self.now c.self.inside.firsts.items c.self.invariant.0 c.self.view_is, c.requires.block)

pub insert_reserved-requires-3-clause-within : goal.insert_reserved-requires-3-clause-within
insert_reserved-requires-3-clause-within g c =
    omega (arith, c.reserve-2.ensures.len, c.self.inside.sums.ok.0, starts_long sum c.self.inside.blocks.items c.args.self.now c.self.inside.sums.items c.self.invariant.1 c.self.view_is, c.requires.block)

blocks : (g : _) (c : goal.After-insert_reserved-3 g) → c.insert_reserved.new.items.items ≡ divided c.args.keep c.args.self.now c.args.k
blocks g c =
    blocks_after_split c.args.keep c.args.k c.self.inside.blocks.items c.args.self.now c.reserve-3.new.self.items c.insert_reserved.new.items.items c.index_mut.result.now c.split.new.self c.in_ok-back.back c.self.view_is c.reserve-3.ensures.items c.requires.block c.index_mut.ensures.value
    c.in_ok-back.ensures.keeps c.in_ok-back.ensures.gives c.insert_reserved.ensures

pub invariant_of-self-3 : goal.invariant_of-self-3
invariant_of-self-3 g c =
    let k : ℕ = c.args.k in
    let keep : ℕ = c.args.keep in
    let bs : List (List ℕ) = c.args.self.now in
    let part : sum (take keep c.counts.result.now) ≡ sum (take keep (get_or bs k [])) = ap (λ (xs : List ℕ). sum (take keep xs)) (c.counts.ensures.counts [] ∙ ap (λ (y : List (List ℕ)). get_or y k []) (c.reserve-3.ensures.items ∙ c.self.view_is)) in
    let first = start_read length k c.self.inside.blocks.items bs c.reserve.new.self.items c.index.result.now c.self.view_is (c.reserve.ensures.items ∙ c.self.invariant.0) c.requires.block c.index.ensures in
    let start = start_read sum k c.self.inside.blocks.items bs c.reserve-2.new.self.items c.index-2.result.now c.self.view_is (c.reserve-2.ensures.items ∙ c.self.invariant.1) c.requires.block c.index-2.ensures in (
      starts_after_split length keep k c.self.inside.blocks.items bs c.insert_reserved.new.items.items c.self.inside.firsts.items c.reserve.new.self.items c.insert_reserved-2.new.items.items (c.index.result.now + keep) c.self.view_is c.self.invariant.0 c.reserve.ensures.items c.requires.block
          (length_parts keep) (omega (arith, first, length-take keep (get_or bs k []), c.requires.within)) c.insert_reserved-2.ensures (blocks g c),
      starts_after_split sum keep k c.self.inside.blocks.items bs c.insert_reserved.new.items.items c.self.inside.sums.items c.reserve-2.new.self.items c.insert_reserved-3.new.items.items (c.index-2.result.now + c.sum_of.result) c.self.view_is c.self.invariant.1 c.reserve-2.ensures.items c.requires.block
          (sum_parts keep) (omega (arith, start, c.sum_of.ensures, part)) c.insert_reserved-3.ensures (blocks g c),
    )

pub returns-clause-splits : goal.returns-clause-splits
returns-clause-splits g c = blocks g c
