use Rattle.std.proofs.Common.{◌≡◌, ◌∙◌, ap, sym, rules, arith, length, false}
use Rattle.std.specs.Prelude.{◌==◌}
use Rattle.std.specs.Int.{w32}
use Rattle.std.proofs.lemmas.Int.{to_z-of_z}
use Rattle.group_coordinator.specs.Coordinators.{Groups}
use Rattle.group_coordinator.proofs.Places.{commit_none, commit_some, served}
use Rattle.group_coordinator.proofs.coordinator.Coordinator.commit_fault.Goals as goal

pub returns-in-None : goal.returns-in-None
returns-in-None g c =
    let follows = ap (λ (v : Groups). v.settings.follows) (sym c.self.view_is) ∙ c.if-self.false in
    let named : (0 == length c.args.group.now) ≡ false = grind (arith, c.is_empty.ensures, c.if-is_empty.false) in
    commit_none c.args.self.now c.args.group.now c.args.generation _ c.args.member.now c.simple_fault.result (to_z-of_z w32 c.args.generation c.ranges.generation)
    (served c.args.self.now c.args.group.now named follows) (search rules) (c.simple_fault.ensures c.args.member.now)

pub returns-in-Some : goal.returns-in-Some
returns-in-Some g c =
    let follows = ap (λ (v : Groups). v.settings.follows) (sym c.self.view_is) ∙ c.if-self.false in
    let named : (0 == length c.args.group.now) ≡ false = grind (arith, c.is_empty.ensures, c.if-is_empty.false) in
    commit_some c.args.self.now c.args.group.now c.args.generation _ c.args.member.now c.in-Some.index c.group.result.now c.commit_fault.result
    (to_z-of_z w32 c.args.generation c.ranges.generation) (served c.args.self.now c.args.group.now named follows) (search rules) (search rules) c.commit_fault.ensures
