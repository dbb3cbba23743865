use Rattle.std.proofs.Common.{◌≡◌, List, length, ap, ◌∙◌, arith, rules}
use Rattle.std.specs.List.{insert}
use Rattle.std.proofs.lemmas.List.{with_items_is}
use Rattle.block_list.proofs.Edited.{starts_long, starts_fit, starts_after_insert}
use Rattle.block_list.proofs.PutBack.{put_back, starts_kept, as_they_were, changed, length_read}
use Rattle.block_list.proofs.blocks.Blocks.insert.Goals as goal

pub index_mut-requires : goal.index_mut-requires
index_mut-requires g c =
    let long : length c.self.inside.blocks.items ≡ length c.args.self.now = ap (λ (bs : List _). length bs) c.self.view_is in
    omega (arith, c.self.inside.blocks.ok.0, long, c.requires.block)

pub insert-requires : goal.insert-requires
insert-requires g c = record {
  within = omega (arith, c.requires.within, length_read c.self.inside.blocks.items c.args.self.now c.args.place.block c.index_mut.result.now c.self.view_is c.requires.block c.index_mut.ensures.value);
}

pub invariant_of-self : goal.invariant_of-self
invariant_of-self g c =
    starts_kept c.self.inside.blocks.items c.args.place.block c.index_mut.result.now c.insert.new.self c.self.inside.starts.items c.self.invariant c.index_mut.ensures.value c.in_err-insert.ensures

pub returns-in_err-insert : goal.returns-in_err-insert
returns-in_err-insert g c =
    put_back c.self.inside.blocks.items c.args.place.block c.index_mut.result.now c.insert.new.self c.index_mut.ensures.value c.in_err-insert.ensures
    ∙ as_they_were c.from_residual.result c.self.inside.blocks.items c.args.self.now _ c.from_residual.ensures.0 c.self.view_is

pub count_one-requires-clause-within : goal.count_one-requires-clause-within
count_one-requires-clause-within g c =
    omega (arith, c.deref_mut.ensures.len, starts_long c.self.inside.blocks.items c.args.self.now c.deref_mut.result.now (c.deref_mut.ensures.value ∙ c.self.invariant) c.self.view_is, c.requires.block)

pub count_one-requires-clause-fits : goal.count_one-requires-clause-fits
count_one-requires-clause-fits g c =
    starts_fit c.self.inside.blocks.items c.args.self.now c.deref_mut.result.now (c.deref_mut.ensures.value ∙ c.self.invariant) c.self.view_is c.requires.fits

pub invariant_of-self-2 : goal.invariant_of-self-2
invariant_of-self-2 g c =
    starts_after_insert c.self.inside.blocks.items c.args.self.now c.args.place.block c.args.place.index c.args.x c.index_mut.result.now c.insert.new.self c.self.inside.starts.items c.deref_mut.result.now c.count_one.new.starts _ c.self.invariant c.self.view_is c.deref_mut.ensures.value
    c.requires.block c.requires.within c.index_mut.ensures.value c.in_ok-insert.ensures c.count_one.ensures (with_items_is c.self.inside.starts c.count_one.new.starts (search rules))

pub returns : goal.returns
returns g c =
    changed (λ b. insert b c.args.place.index c.args.x) c.self.inside.blocks.items c.args.self.now c.args.place.block c.index_mut.result.now c.insert.new.self c.self.view_is c.requires.block c.index_mut.ensures.value c.in_ok-insert.ensures
