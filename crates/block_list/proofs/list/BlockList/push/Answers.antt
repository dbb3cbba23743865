use Rattle.std.proofs.Common.{◌≡◌, ◌+◌, ◌++◌, List, [], ◌∷◌, length, ap, ◌∙◌, arith, rules, length-append}
use Rattle.block_list.specs.Blocks.{joined}
use Rattle.block_list.proofs.list.BlockList.push.Goals as goal

pub invariant_of-self-2 : goal.invariant_of-self-2
invariant_of-self-2 g c =
    let more : c.in_ok-len.len ≡ c.self.inside.len + 1 = search rules in
    omega (arith, more, c.self.invariant, ap (λ (ys : List _). length ys) c.in_ok-push.ensures, length-append (joined c.self.inside.blocks) (c.args.x ∷ []))

pub returns-clause-pushes : goal.returns-clause-pushes
returns-clause-pushes g c = c.in_ok-push.ensures ∙ ap (λ (ys : List _). ys ++ c.args.x ∷ []) c.self.view_is
