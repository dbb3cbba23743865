use Rattle.std.proofs.Common.{◌≡◌, true, nat_lt, arith}
use Rattle.group_coordinator.specs.declared.values.TheConstants.{MOST_GENERATION}
use Rattle.group_coordinator.proofs.Moves.{does_begin}
use Rattle.group_coordinator.proofs.group.MemberGroup.begin.Goals as goal

pub returns : goal.returns
returns g c =
    let low : nat_lt c.args.ledger.now.generations MOST_GENERATION ≡ true = grind (arith, c.generations.ensures, c.if-generations-ge-MOST_GENERATION.false) in
    does_begin c.args.now c.next_generation.result c.args.ledger.now c.next_generation.new.self c.args.self.now c.take_generation.new.self low c.next_generation.ensures.number
    c.next_generation.ensures.counts c.take_generation.ensures
