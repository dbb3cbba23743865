use Rattle.std.proofs.Common.{◌∙◌, ap, refl}
use Rattle.group_coordinator.specs.Coordinators.{without_ready}
use Rattle.group_coordinator.specs.Doing.{Noted}
use Rattle.group_coordinator.proofs.Bytes.{numbered_as, sent_within}
use Rattle.group_coordinator.proofs.Due.{sent_first}
use Rattle.group_coordinator.proofs.Sending.{sent_all, sent_both, sent_room}
use Rattle.group_coordinator.proofs.coordinator.Coordinator.sent.Goals as goal

pub invariant_of-self : goal.invariant_of-self
invariant_of-self g c =
    let same = sent_within c.args.session c.self.inside.groups c.send.new.self c.self.inside.bytes c.self.inside.ledger.generations c.send.ensures c.self.invariant.3 c.self.invariant.4 in (
      c.self.invariant.0,
      sent_both c.args.session c.self.inside.groups c.send.new.self c.send.ensures c.self.invariant.1,
      sent_room c.args.session c.self.inside.ledger c.forget.new.self c.self.inside.groups c.send.new.self c.forget.ensures c.send.ensures c.self.invariant.2,
      same.0,
      numbered_as c.self.inside.ledger.generations c.forget.new.self.generations c.send.new.self (ap (λ (n : Noted). n.generations) c.forget.ensures) same.1,
      sent_first c.self.inside.due c.args.session c.self.inside.groups c.send.new.self c.send.ensures c.self.invariant.5,
    )

pub returns : goal.returns
returns g c =
    sent_all c.args.session (record { settings = c.self.inside.settings; now = c.self.inside.time; ids = c.self.inside.ids; generations = c.self.inside.ledger.generations; groups = c.self.inside.groups; refused = c.self.inside.ledger.refusals }) c.self.inside.ledger c.forget.new.self c.send.new.self refl refl c.forget.ensures c.send.ensures
    ∙ ap (without_ready c.args.session) c.self.view_is
