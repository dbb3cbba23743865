use Rattle.std.proofs.Common.{◌≡◌, ℕ, ◌<◌, List, length, get_or, ap, sym, ◌∙◌, arith}
use Rattle.std.specs.List.{sum_by}
use Rattle.count_list.specs.Blocks.{joined, running}
use Rattle.count_list.proofs.Running.{some_start, first_start, starts_rising, is_in_read, length_joined}
use Rattle.count_list.proofs.blocks.Blocks.locate.Goals as goal

same : (g : _) (c : goal.After-deref g) → c.deref.result.now ≡ running length 0 c.self.inside.blocks.items
same g c = c.deref.ensures.value ∙ c.self.invariant.0

inside : (g : _) (c : goal.After-deref g) → c.args.i < sum_by length c.self.inside.blocks.items
inside g c = omega (arith, c.requires, length_joined c.self.inside.blocks.items, ap (λ (bs : List (List ℕ)). length (joined bs)) c.self.view_is)

pub block_at-block-requires-clause-not_empty : goal.block_at-block-requires-clause-not_empty
block_at-block-requires-clause-not_empty g c = some_start length c.self.inside.blocks.items _ c.args.i (same g c) (inside g c)

pub block_at-block-requires-clause-from_0 : goal.block_at-block-requires-clause-from_0
block_at-block-requires-clause-from_0 g c = first_start length c.self.inside.blocks.items _ c.args.i (same g c) (inside g c)

pub block_at-block-requires-clause-rising : goal.block_at-block-requires-clause-rising
block_at-block-requires-clause-rising g c = starts_rising length c.self.inside.blocks.items _ (same g c)

pub returns : goal.returns
returns g c =
    let deref : c.deref.result.now ≡ c.self.inside.firsts.items = c.deref.ensures.value in
    let at : c.args.i < sum_by length c.self.inside.blocks.items =
    omega (arith, c.requires, length_joined c.self.inside.blocks.items, ap (λ (bs : List (List ℕ)). length (joined bs)) c.self.view_is) in
    is_in_read length c.self.inside.blocks.items c.args.self.now c.deref.result.now c.block_at-block.result c.args.i c.index.result.now (deref ∙ c.self.invariant.0) c.block_at-block.ensures.block c.block_at-block.ensures.starts_before c.block_at-block.ensures.ends_after
    at (c.index.ensures ∙ ap (λ (ss : List ℕ). get_or ss c.block_at-block.result c.index.result.now) (sym deref)) c.self.view_is
