use Rattle.std.proofs.Common.{◌+◌, ◌∙◌, ap, sym}
use Rattle.group_coordinator.specs.Coordinators.{Groups, all_bytes, move_one, with_group}
use Rattle.group_coordinator.specs.Doing.{Noted}
use Rattle.group_coordinator.specs.Joining.{plainly, with_last}
use Rattle.group_coordinator.proofs.Adding.{counted_room, entered_both, entered_counted, entered_next, entered_numbered}
use Rattle.group_coordinator.proofs.Due.{entered_first}
use Rattle.group_coordinator.proofs.Bytes.{numbered_as}
use Rattle.group_coordinator.proofs.coordinator.Coordinator.add_member.Goals as goal

pub invariant_of-self-2 : goal.invariant_of-self-2
invariant_of-self-2 g c =
    let v : Groups = record { settings = c.self.inside.settings; now = c.self.inside.time; ids = c.self.inside.ids; generations = c.self.inside.ledger.generations; groups = c.self.inside.groups; refused = c.self.inside.ledger.refusals } in
    let counted = entered_counted c.args.group.now c.args.kind.now c.args.member v c.enter.new.self c.self.invariant.1.0 c.self.invariant.1.1 c.in_ok-enter.ensures.enters c.args.bytes
    (c.requires.counted ∙ ap (λ (w : Groups). all_bytes (move_one c.args.group.now (plainly (with_last c.args.member)) (with_group c.args.group.now c.args.kind.now w))) (sym c.self.view_is)) c.requires.bounded in (
      c.self.invariant.0,
      entered_both c.args.group.now c.args.kind.now c.args.member v c.enter.new.self c.self.invariant.1.0 c.self.invariant.1.1 c.in_ok-enter.ensures.enters,
      counted_room c.reserve.new.self c.enter.new.self c.args.bytes c.refusals_most.result counted c.refusals_most.ensures c.in_ok-reserve.ensures.reserves,
      counted,
      numbered_as c.self.inside.ledger.generations c.reserve.new.self.generations c.enter.new.self (ap (λ (n : Noted). n.generations) c.reserve.ensures.unchanged)
          (entered_numbered c.args.group.now c.args.kind.now c.args.member v c.enter.new.self c.self.invariant.1.0 c.self.invariant.1.1 c.in_ok-enter.ensures.enters c.self.inside.ledger.generations c.self.invariant.4),
      entered_first c.self.inside.due c.args.group.now c.args.kind.now c.args.member c.self.inside.groups c.enter.new.self c.requires.joins c.in_ok-enter.ensures.enters c.self.invariant.5,
    )

pub returns-clause-enters : goal.returns-clause-enters
returns-clause-enters g c =
    let v : Groups = record { settings = c.self.inside.settings; now = c.self.inside.time; ids = c.self.inside.ids; generations = c.self.inside.ledger.generations; groups = c.self.inside.groups; refused = c.self.inside.ledger.refusals } in
    (λ j. record v {
      ids = c.self.inside.ids + 1;
      groups = c.enter.new.self;
      generations = ap (λ (n : Noted). n.generations) c.reserve.ensures.unchanged j;
      refused = ap (λ (n : Noted). n.refusals) c.reserve.ensures.unchanged j;
    })
    ∙ entered_next c.args.group.now c.args.kind.now c.args.member v c.enter.new.self c.self.invariant.1.0 c.self.invariant.1.1 c.in_ok-enter.ensures.enters (c.self.inside.ids + 1)
    ∙ ap (λ (w : Groups). move_one c.args.group.now (plainly (with_last c.args.member)) (record (with_group c.args.group.now c.args.kind.now w) { ids = w.ids + 1 })) c.self.view_is
