use Rattle.std.proofs.Common.{◌≡◌, ℕ, ◌<◌, ◌+◌, ◌-◌, List, [], length, subst, get_or, ap, sym, ◌∙◌, arith}
use Rattle.std.specs.List.{sum_by, sum}
use Rattle.count_list.specs.Blocks.{joined, running}
use Rattle.count_list.proofs.Running.{some_start, first_start, starts_rising, is_in_read, start_read, sum_joined, found_in, Found}
use Rattle.count_list.proofs.Edited.{starts_long}
use Rattle.count_list.proofs.blocks.Blocks.find.Goals as goal

same : (g : _) (c : goal.After-deref g) → c.deref.result.now ≡ running sum 0 c.self.inside.blocks.items
same g c = c.deref.ensures.value ∙ c.self.invariant.1

inside : (g : _) (c : goal.After-deref g) → c.args.n < sum_by sum c.self.inside.blocks.items
inside g c = omega (arith, c.requires.within, sum_joined c.self.inside.blocks.items, ap (λ (bs : List (List ℕ)). sum (joined bs)) c.self.view_is)

pub block_at-block-requires-clause-not_empty : goal.block_at-block-requires-clause-not_empty
block_at-block-requires-clause-not_empty g c = some_start sum c.self.inside.blocks.items _ c.args.n (same g c) (inside g c)

pub block_at-block-requires-clause-from_0 : goal.block_at-block-requires-clause-from_0
block_at-block-requires-clause-from_0 g c = first_start sum c.self.inside.blocks.items _ c.args.n (same g c) (inside g c)

pub block_at-block-requires-clause-rising : goal.block_at-block-requires-clause-rising
block_at-block-requires-clause-rising g c = starts_rising sum c.self.inside.blocks.items _ (same g c)

pub counts-requires : goal.counts-requires
counts-requires g c =
    omega (arith, c.block_at-block.ensures.block, starts_long sum c.self.inside.blocks.items c.args.self.now c.deref.result.now (c.deref.ensures.value ∙ c.self.invariant.1) c.self.view_is)

pub find_in-inside-requires : goal.find_in-inside-requires
find_in-inside-requires g c = record {
  within =
      let deref : c.deref.result.now ≡ c.self.inside.sums.items = c.deref.ensures.value in
      let inside : c.args.n < sum_by sum c.self.inside.blocks.items =
      omega (arith, c.requires.within, sum_joined c.self.inside.blocks.items, ap (λ (bs : List (List ℕ)). sum (joined bs)) c.self.view_is) in
      let at = is_in_read sum c.self.inside.blocks.items c.args.self.now c.deref.result.now c.block_at-block.result c.args.n c.index.result.now (deref ∙ c.self.invariant.1) c.block_at-block.ensures.block c.block_at-block.ensures.starts_before c.block_at-block.ensures.ends_after
      inside (c.index.ensures ∙ ap (λ (ss : List ℕ). get_or ss c.block_at-block.result c.index.result.now) (sym deref)) c.self.view_is in
      subst (λ (xs : List ℕ). c.args.n - c.index.result.now < sum xs) (sym (c.counts.ensures.counts [])) at.within;
}

pub index-requires-2 : goal.index-requires-2
index-requires-2 g c =
    omega (arith, c.block_at-block.ensures.block, starts_long sum c.self.inside.blocks.items c.args.self.now c.deref.result.now (c.deref.ensures.value ∙ c.self.invariant.1) c.self.view_is, c.self.inside.firsts.ok.0, starts_long length c.self.inside.blocks.items c.args.self.now c.self.inside.firsts.items c.self.invariant.0 c.self.view_is)

found : (g : _) (c : goal.After-struct_known-1 g) → Found c.args.self.now (c.index-2.result.now + c.find_in-inside.result.index) c.find_in-inside.result.rest c.args.n
found g c =
    let deref : c.deref.result.now ≡ c.self.inside.sums.items = c.deref.ensures.value in
    let inside : c.args.n < sum_by sum c.self.inside.blocks.items =
    omega (arith, c.requires.within, sum_joined c.self.inside.blocks.items, ap (λ (bs : List (List ℕ)). sum (joined bs)) c.self.view_is) in
    let at = is_in_read sum c.self.inside.blocks.items c.args.self.now c.deref.result.now c.block_at-block.result c.args.n c.index.result.now (deref ∙ c.self.invariant.1) c.block_at-block.ensures.block c.block_at-block.ensures.starts_before c.block_at-block.ensures.ends_after
    inside (c.index.ensures ∙ ap (λ (ss : List ℕ). get_or ss c.block_at-block.result c.index.result.now) (sym deref)) c.self.view_is in
    found_in c.args.self.now c.block_at-block.result c.find_in-inside.result.index c.find_in-inside.result.rest c.args.n (c.args.n - c.index.result.now) c.index-2.result.now c.counts.result.now at (c.counts.ensures.counts []) c.find_in-inside.ensures.index c.find_in-inside.ensures.sum c.find_in-inside.ensures.rest
    (start_read length c.block_at-block.result c.self.inside.blocks.items c.args.self.now c.self.inside.firsts.items c.index-2.result.now c.self.view_is c.self.invariant.0 at.block c.index-2.ensures)

pub overflow_add-result : goal.overflow_add-result
overflow_add-result g c =
    let deref : c.deref.result.now ≡ c.self.inside.sums.items = c.deref.ensures.value in
    let inside : c.args.n < sum_by sum c.self.inside.blocks.items =
    omega (arith, c.requires.within, sum_joined c.self.inside.blocks.items, ap (λ (bs : List (List ℕ)). sum (joined bs)) c.self.view_is) in
    let at = is_in_read sum c.self.inside.blocks.items c.args.self.now c.deref.result.now c.block_at-block.result c.args.n c.index.result.now (deref ∙ c.self.invariant.1) c.block_at-block.ensures.block c.block_at-block.ensures.starts_before c.block_at-block.ensures.ends_after
    inside (c.index.ensures ∙ ap (λ (ss : List ℕ). get_or ss c.block_at-block.result c.index.result.now) (sym deref)) c.self.view_is in
    let found = found_in c.args.self.now c.block_at-block.result c.find_in-inside.result.index c.find_in-inside.result.rest c.args.n (c.args.n - c.index.result.now) c.index-2.result.now c.counts.result.now at (c.counts.ensures.counts []) c.find_in-inside.ensures.index c.find_in-inside.ensures.sum c.find_in-inside.ensures.rest
    (start_read length c.block_at-block.result c.self.inside.blocks.items c.args.self.now c.self.inside.firsts.items c.index-2.result.now c.self.view_is c.self.invariant.0 at.block c.index-2.ensures) in
    omega (arith, found.index, c.requires.fits)

pub returns-clause-index : goal.returns-clause-index
returns-clause-index g c = (found g c).index

pub returns-clause-sum : goal.returns-clause-sum
returns-clause-sum g c = (found g c).sum

pub returns-clause-rest : goal.returns-clause-rest
returns-clause-rest g c = (found g c).rest_less
