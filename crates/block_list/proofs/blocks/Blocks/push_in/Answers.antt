use Rattle.std.proofs.Common.{◌≡◌, List, [], ◌∷◌, ◌++◌, length, ap, ◌∙◌, arith}
use Rattle.block_list.proofs.Edited.{starts_after_growth}
use Rattle.block_list.proofs.PutBack.{put_back, starts_kept, as_they_were, changed}
use Rattle.block_list.proofs.blocks.Blocks.push_in.Goals as goal

pub index_mut-requires : goal.index_mut-requires
index_mut-requires g c =
    let long : length c.self.inside.blocks.items ≡ length c.args.self.now = ap (λ (bs : List _). length bs) c.self.view_is in
    omega (arith, c.self.inside.blocks.ok.0, long, c.requires.last)

pub invariant_of-self : goal.invariant_of-self
invariant_of-self g c = starts_kept c.self.inside.blocks.items c.args.k c.index_mut.result.now c.push.new.self c.self.inside.starts.items c.self.invariant c.index_mut.ensures.value c.in_err-push.ensures

pub returns-in_err-push : goal.returns-in_err-push
returns-in_err-push g c =
    put_back c.self.inside.blocks.items c.args.k c.index_mut.result.now c.push.new.self c.index_mut.ensures.value c.in_err-push.ensures
    ∙ as_they_were c.from_residual.result c.self.inside.blocks.items c.args.self.now _ c.from_residual.ensures.0 c.self.view_is

pub invariant_of-self-2 : goal.invariant_of-self-2
invariant_of-self-2 g c = starts_after_growth c.self.inside.blocks.items c.args.self.now c.args.k c.push.new.self c.self.inside.starts.items c.self.invariant c.self.view_is c.requires.last

pub returns : goal.returns
returns g c =
    changed (λ b. b ++ c.args.x ∷ []) c.self.inside.blocks.items c.args.self.now c.args.k c.index_mut.result.now c.push.new.self c.self.view_is (omega (arith, c.requires.last)) c.index_mut.ensures.value c.in_ok-push.ensures
