use Rattle.std.proofs.Common.{◌≡◌, ◌+◌, ℕ, List, length, ap, arith, rules}
use Rattle.std.specs.List.{insert}
use Rattle.std.proofs.lemmas.List.Edits.{length-insert}
use Rattle.std.proofs.lemmas.List.Sums.{sum_by-insert}
use Rattle.std.specs.List.{sum}
use Rattle.count_list.specs.Blocks.{joined}
use Rattle.count_list.proofs.Edited.{inserted}
use Rattle.count_list.proofs.list.CountList.insert.Goals as goal

list : (g : _) (c : goal.After-self-2-1 g) → joined c.insert.new.self ≡ insert c.args.self.now c.args.i c.args.n
list g c =
    inserted c.self.inside.blocks c.make_room.new.self c.insert.new.self c.args.self.now c.in_ok-place.place.block c.in_ok-place.place.index c.args.i c.args.n c.self.view_is c.make_room.ensures.same c.in_ok-place.ensures.place c.in_ok-insert.ensures

pub returns-clause-inserts : goal.returns-clause-inserts
returns-clause-inserts g c = list g c

pub invariant_of-self-2 : goal.invariant_of-self-2
invariant_of-self-2 g c =
    let all : joined c.insert.new.self ≡ insert c.args.self.now c.args.i c.args.n = inserted c.self.inside.blocks c.make_room.new.self c.insert.new.self c.args.self.now c.in_ok-place.place.block c.in_ok-place.place.index c.args.i c.args.n c.self.view_is c.make_room.ensures.same c.in_ok-place.ensures.place c.in_ok-insert.ensures in
    let more : c.in_ok-len.len ≡ c.self.inside.len + 1 = search rules in (
      omega (arith, more, c.self.invariant.0, ap (λ (ys : List ℕ). length ys) c.self.view_is, ap (λ (ys : List ℕ). length ys) all, length-insert c.args.self.now c.args.i c.args.n c.requires.within),
      omega (arith, c.self.invariant.1, ap (λ (ys : List ℕ). sum ys) c.self.view_is, ap (λ (ys : List ℕ). sum ys) all, sum_by-insert (λ x. x) c.args.self.now c.args.i c.args.n),
    )
