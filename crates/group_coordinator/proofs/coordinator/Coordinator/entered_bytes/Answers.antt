use Rattle.std.proofs.Common.{ap, ◌∙◌, rules}
use Rattle.group_coordinator.specs.Coordinators.{Groups, all_bytes, move_one, with_group}
use Rattle.group_coordinator.specs.Entering.{capped}
use Rattle.group_coordinator.specs.Joining.{plainly, with_last}
use Rattle.group_coordinator.proofs.Adding.{capped_found, capped_none}
use Rattle.group_coordinator.proofs.coordinator.Coordinator.entered_bytes.Goals as goal

pub returns-in-Some : goal.returns-in-Some
returns-in-Some g c =
    capped_found c.args.group.now c.args.kind.now c.args.member.now (record { settings = c.self.inside.settings; now = c.self.inside.time; ids = c.self.inside.ids; generations = c.self.inside.ledger.generations; groups = c.self.inside.groups; refused = c.self.inside.ledger.refusals }) c.in-Some.field-0 c.self.inside.bytes c.capped_bytes.result
    c.saturating_add-bytes.result c.self.invariant.1.0 c.self.invariant.1.1 (search rules) c.self.invariant.3 c.capped_bytes.ensures c.saturating_add-bytes.ensures
    ∙ ap (λ (v : Groups). capped (all_bytes (move_one c.args.group.now (plainly (with_last c.args.member.now)) (with_group c.args.group.now c.args.kind.now v)))) c.self.view_is

pub returns-in-None : goal.returns-in-None
returns-in-None g c =
    capped_none c.args.group.now c.args.kind.now c.args.member.now (record { settings = c.self.inside.settings; now = c.self.inside.time; ids = c.self.inside.ids; generations = c.self.inside.ledger.generations; groups = c.self.inside.groups; refused = c.self.inside.ledger.refusals }) c.self.inside.bytes c.capped_bytes.result
    c.saturating_add-bytes.result c.saturating_add.result c.saturating_add-in-None.result c.self.invariant.1.0 c.self.invariant.1.1 (search rules) c.self.invariant.3 c.capped_bytes.ensures c.saturating_add-bytes.ensures
    c.saturating_add.ensures c.saturating_add-in-None.ensures
    ∙ ap (λ (v : Groups). capped (all_bytes (move_one c.args.group.now (plainly (with_last c.args.member.now)) (with_group c.args.group.now c.args.kind.now v)))) c.self.view_is
