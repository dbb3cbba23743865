use Rattle.std.proofs.Common.{◌≡◌, List, length, ap, ◌∙◌, arith}
use Rattle.block_list.specs.Blocks.{joined}
use Rattle.block_list.specs.Fillings.{FillingValue}
use Rattle.block_list.proofs.Filled.{none_held, some_held, one_block, one_start, joined_one}
use Rattle.block_list.proofs.filling.Filling.finish.Goals as goal

pub returns-then-is_empty : goal.returns-then-is_empty
returns-then-is_empty g c =
    c.new.ensures.is_empty ∙ none_held c.self.inside.items.items _ (omega (arith, c.self.inside.items.ok.0)) c.if-is_empty.ensures ∙ ap (λ (f : FillingValue _). f.items) c.self.view_is

pub of-requires : goal.of-requires
of-requires g c = some_held c.self.inside.items.items _ (omega (arith, c.self.inside.items.ok.0)) c.if-is_empty.ensures

pub of-requires-2 : goal.of-requires-2
of-requires-2 g c =
    let holds = one_block _ c.push_reserved.new.self.items c.of.result c.self.inside.items.items c.self.invariant.0 c.push_reserved.ensures.items c.of.ensures in
    one_start c.self.inside.starts.items c.push_reserved-2.new.self.items c.push_reserved.new.self.items c.self.inside.items.items c.self.invariant.1 c.push_reserved-2.ensures.items holds

pub of_blocks-requires : goal.of_blocks-requires
of_blocks-requires g c =
    let holds = one_block _ c.push_reserved.new.self.items c.of.result c.self.inside.items.items c.self.invariant.0 c.push_reserved.ensures.items c.of.ensures in
    let same : length (joined c.of-2.result) ≡ length c.self.inside.items.items = ap (λ (xs : List _). length xs) (joined_one c.of-2.result c.self.inside.items.items (c.of-2.ensures ∙ holds)) in
    omega (arith, same, c.len-len.ensures, c.self.inside.items.ok.0)

pub returns : goal.returns
returns g c =
    let holds = one_block _ c.push_reserved.new.self.items c.of.result c.self.inside.items.items c.self.invariant.0 c.push_reserved.ensures.items c.of.ensures in
    c.of_blocks.ensures ∙ joined_one c.of-2.result c.self.inside.items.items (c.of-2.ensures ∙ holds) ∙ ap (λ (f : FillingValue _). f.items) c.self.view_is
