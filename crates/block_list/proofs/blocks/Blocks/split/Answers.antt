use Rattle.std.proofs.Common.{◌≡◌, ◌+◌, ◌^◌, ◌<◌, List, length, get_or, sym, ap, ◌∙◌, arith, rules}
use Rattle.block_list.specs.Blocks.{starts_of, divided}
use Rattle.block_list.proofs.Edited.{starts_long, start_read, start_fits, blocks_after_split, starts_after_split}
use Rattle.block_list.proofs.PutBack.{put_back, starts_kept, as_they_were, length_read}
use Rattle.block_list.proofs.blocks.Blocks.split.Goals as goal

pub invariant_of-self : goal.invariant_of-self
invariant_of-self g c = c.reserve.ensures.items ∙ c.self.invariant

pub returns-in_err-reserve-clause-splits : goal.returns-in_err-reserve-clause-splits
returns-in_err-reserve-clause-splits g c = as_they_were c.from_residual.result c.self.inside.blocks.items c.args.self.now _ c.from_residual.ensures.0 c.self.view_is

pub invariant_of-self-in_err-reserve-2 : goal.invariant_of-self-in_err-reserve-2
invariant_of-self-in_err-reserve-2 g c = c.reserve.ensures.items ∙ c.self.invariant ∙ ap (λ (bs : List (List _)). starts_of 0 bs) (sym c.reserve-2.ensures.items)

pub returns-in_err-reserve-2-clause-splits : goal.returns-in_err-reserve-2-clause-splits
returns-in_err-reserve-2-clause-splits g c =
    c.reserve-2.ensures.items ∙ as_they_were c.from_residual-in_err-reserve-2.result c.self.inside.blocks.items c.args.self.now _ c.from_residual-in_err-reserve-2.ensures.0 c.self.view_is

pub index_mut-requires : goal.index_mut-requires
index_mut-requires g c =
    let long : length c.self.inside.blocks.items ≡ length c.args.self.now = ap (λ (bs : List _). length bs) c.self.view_is in
    omega (arith, c.reserve-2.ensures.len, c.self.inside.blocks.ok.0, long, c.requires.block)

pub split-requires-clause-not_all : goal.split-requires-clause-not_all
split-requires-clause-not_all g c =
    let long = length_read c.reserve-2.new.self.items c.args.self.now c.args.k c.index_mut.result.now (c.reserve-2.ensures.items ∙ c.self.view_is) c.requires.block c.index_mut.ensures.value in
    omega (arith, c.requires.not_all, long)

pub invariant_of-self-in_err-back : goal.invariant_of-self-in_err-back
invariant_of-self-in_err-back g c =
    let starts = c.reserve.ensures.items ∙ c.self.invariant ∙ ap (λ (bs : List (List _)). starts_of 0 bs) (sym c.reserve-2.ensures.items) in
    starts_kept c.reserve-2.new.self.items c.args.k c.index_mut.result.now c.split.new.self c.reserve.new.self.items starts c.index_mut.ensures.value c.in_err-back.ensures.keeps

pub returns-in_err-back-clause-splits : goal.returns-in_err-back-clause-splits
returns-in_err-back-clause-splits g c =
    put_back c.reserve-2.new.self.items c.args.k c.index_mut.result.now c.split.new.self c.index_mut.ensures.value c.in_err-back.ensures.keeps
    ∙ as_they_were c.from_residual-in_err-back.result c.reserve-2.new.self.items c.args.self.now _ c.from_residual-in_err-back.ensures.0 (c.reserve-2.ensures.items ∙ c.self.view_is)

pub index-requires : goal.index-requires
index-requires g c =
    omega (arith, c.reserve.ensures.len, c.self.inside.starts.ok.0, starts_long c.self.inside.blocks.items c.args.self.now c.self.inside.starts.items c.self.invariant c.self.view_is, c.requires.block)

read : (g : _) (c : goal.After-row_known-1 g) → c.index.result.now ≡ get_or (starts_of 0 c.args.self.now) c.args.k 0
read g c = start_read c.args.k c.self.inside.blocks.items c.args.self.now c.self.inside.starts.items c.reserve.new.self.items c.index.result.now c.self.view_is c.self.invariant c.reserve.ensures.items c.requires.block c.index.ensures

pub overflow_add-start : goal.overflow_add-start
overflow_add-start g c =
    let fits : c.index.result.now + c.args.keep < 2 ^ 64 = start_fits c.args.keep c.args.k c.args.self.now c.index.result.now c.requires.block (read g c) (omega (arith, c.requires.not_all)) c.requires.fits in
    search rules

pub insert_reserved-requires-2-clause-within : goal.insert_reserved-requires-2-clause-within
insert_reserved-requires-2-clause-within g c =
    omega (arith, c.reserve.ensures.len, c.self.inside.starts.ok.0, starts_long c.self.inside.blocks.items c.args.self.now c.self.inside.starts.items c.self.invariant c.self.view_is, c.requires.block)

blocks : (g : _) (c : goal.After-insert_reserved-2 g) → c.insert_reserved.new.items.items ≡ divided c.args.keep c.args.self.now c.args.k
blocks g c =
    blocks_after_split c.args.keep c.args.k c.self.inside.blocks.items c.args.self.now c.reserve-2.new.self.items c.insert_reserved.new.items.items c.index_mut.result.now c.split.new.self c.in_ok-back.back c.self.view_is c.reserve-2.ensures.items c.requires.block c.index_mut.ensures.value
    c.in_ok-back.ensures.keeps c.in_ok-back.ensures.gives c.insert_reserved.ensures

pub invariant_of-self-2 : goal.invariant_of-self-2
invariant_of-self-2 g c =
    starts_after_split c.args.keep c.args.k c.self.inside.blocks.items c.args.self.now c.insert_reserved.new.items.items c.self.inside.starts.items c.reserve.new.self.items c.insert_reserved-2.new.items.items c.index.result.now c.self.view_is c.self.invariant c.reserve.ensures.items c.requires.block (omega (arith, c.requires.not_all))
    (start_read c.args.k c.self.inside.blocks.items c.args.self.now c.self.inside.starts.items c.reserve.new.self.items c.index.result.now c.self.view_is c.self.invariant c.reserve.ensures.items c.requires.block c.index.ensures) c.insert_reserved-2.ensures (blocks g c)

pub returns-clause-splits : goal.returns-clause-splits
returns-clause-splits g c = blocks g c
