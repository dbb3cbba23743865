use Rattle.std.proofs.Common.{◌≡◌, subst, sym, ◌∙◌, rules}
use Rattle.std.specs.Prelude.{None}
use Rattle.std.specs.List.{position}
use Rattle.group_coordinator.specs.Coordinators.{Groups, all_bytes, if_room, is_named, move_one, release}
use Rattle.group_coordinator.specs.Joining.{sync}
use Rattle.group_coordinator.proofs.Staying.{sync_nowhere}
use Rattle.group_coordinator.proofs.coordinator.Coordinator.sync_group.Goals as goal

pub returns-in-None-clause-replies : goal.returns-in-None-clause-replies
returns-in-None-clause-replies g c = λ q group member parts.
    let none : position (is_named q.group) c.self.inside.groups ≡ None = (λ i. position (is_named (group i)) c.self.inside.groups) ∙ sym c.index_of.ensures ∙ c.in-None.is in
    subst (λ (v : Groups). if_room (all_bytes (move_one q.group (sync v.now c.args.session q) v)) v (move_one q.group (sync v.now c.args.session q) v) c.args.session ≡ release c.args.session v) c.self.view_is
    (sync_nowhere c.self.inside.time c.args.session q q.group (record { settings = c.self.inside.settings; now = c.self.inside.time; ids = c.self.inside.ids; generations = c.self.inside.ledger.generations; groups = c.self.inside.groups; refused = c.self.inside.ledger.refusals })
    c.self.inside.bytes c.self.invariant.1.1 none c.self.invariant.3 (search rules))
