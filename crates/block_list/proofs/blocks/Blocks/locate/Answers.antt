use Rattle.std.proofs.Common.{◌≡◌, ℕ, ◌<◌, List, length, get_or, ap, sym, ◌∙◌, rules}
use Rattle.block_list.specs.Blocks.{joined, starts_of}
use Rattle.block_list.proofs.Running.{some_start, first_start, starts_rising, is_in_read}
use Rattle.block_list.proofs.blocks.Blocks.locate.Goals as goal

same : (g : _) (c : goal.After-deref g) → c.deref.result.now ≡ starts_of 0 c.self.inside.blocks.items
same g c = c.deref.ensures.value ∙ c.self.invariant

inside : (g : _) (c : goal.After-deref g) → c.args.i < length (joined c.self.inside.blocks.items)
inside g c = search rules

pub block_at-block-requires-clause-not_empty : goal.block_at-block-requires-clause-not_empty
block_at-block-requires-clause-not_empty g c = some_start c.self.inside.blocks.items _ c.args.i (same g c) (inside g c)

pub block_at-block-requires-clause-from_0 : goal.block_at-block-requires-clause-from_0
block_at-block-requires-clause-from_0 g c = first_start c.self.inside.blocks.items _ c.args.i (same g c) (inside g c)

pub block_at-block-requires-clause-rising : goal.block_at-block-requires-clause-rising
block_at-block-requires-clause-rising g c = starts_rising c.self.inside.blocks.items _ (same g c)

pub returns : goal.returns
returns g c =
    is_in_read c.self.inside.blocks.items c.args.self.now c.deref.result.now c.block_at-block.result c.args.i c.index.result.now (c.deref.ensures.value ∙ c.self.invariant) c.block_at-block.ensures.block c.block_at-block.ensures.starts_before c.block_at-block.ensures.ends_after
    (search rules) (c.index.ensures ∙ ap (λ (ss : List ℕ). get_or ss c.block_at-block.result c.index.result.now) (sym c.deref.ensures.value)) c.self.view_is
