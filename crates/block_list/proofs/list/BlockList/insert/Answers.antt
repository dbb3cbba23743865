use Rattle.std.proofs.Common.{◌≡◌, ◌+◌, List, length, ap, arith, rules}
use Rattle.std.specs.List.{insert}
use Rattle.std.proofs.lemmas.List.Edits.{length-insert}
use Rattle.block_list.specs.Blocks.{joined}
use Rattle.block_list.proofs.Edited.{inserted}
use Rattle.block_list.proofs.list.BlockList.insert.Goals as goal

list : (g : _) (c : goal.After-self-1 g) → joined c.insert.new.self ≡ insert c.args.self.now c.args.i c.args.x
list g c =
    inserted c.self.inside.blocks c.make_room.new.self c.insert.new.self c.args.self.now c.in_ok-place.place.block c.in_ok-place.place.index c.args.i c.args.x c.self.view_is c.make_room.ensures.same c.in_ok-place.ensures.place c.in_ok-insert.ensures

pub invariant_of-self-2 : goal.invariant_of-self-2
invariant_of-self-2 g c =
    let more : c.in_ok-len.len ≡ c.self.inside.len + 1 = search rules in
    omega (arith, more, c.self.invariant, ap (λ (ys : List _). length ys) c.self.view_is, ap (λ (ys : List _). length ys) (list g c), length-insert c.args.self.now c.args.i c.args.x c.requires.within)

pub returns-clause-inserts : goal.returns-clause-inserts
returns-clause-inserts g c = list g c
