use Rattle.std.proofs.Common.{◌∙◌, ap, get_or, subst, sym}
use Rattle.group_coordinator.specs.Coordinators.{Groups, move_one}
use Rattle.group_coordinator.specs.Keeping.{AreApart, ArePeopled}
use Rattle.group_coordinator.specs.Requests.{JoinRequest}
use Rattle.group_coordinator.proofs.Again.{rejoins_all, repeats_told, tells}
use Rattle.group_coordinator.proofs.Entering.{on_ok}
use Rattle.group_coordinator.proofs.Joined.{renewal}
use Rattle.group_coordinator.proofs.coordinator.Coordinator.join_again.Goals as goal

pub returns-then-is_repeat-clause-joins : goal.returns-then-is_repeat-clause-joins
returns-then-is_repeat-clause-joins g c =
    let apart = subst (λ (v : Groups). AreApart v.groups) c.self.view_is c.self.invariant.1.0 in
    let some = subst (λ (v : Groups). ArePeopled v.groups) c.self.view_is c.self.invariant.1.1 in
    let at = c.group.ensures ∙ (λ j. get_or (c.self.view_is j).groups c.args.index c.group.result.now) in
    on_ok c.tell_again.result
    (λ told e. repeats_told c.args.session c.args.request c.args.self.now c.args.index c.group.result.now apart some e at c.tell_again.new.self (sym c.is_repeat.ensures ∙ c.if-is_repeat.true)
    (told c.args.request.group e ∙ (λ j. move_one c.args.request.group (tells c.args.self.now.now c.args.session (ap (λ (q : JoinRequest). q.member) c.request.view_is j)) c.args.self.now)))
    c.tell_again.ensures.tells

pub returns-clause-joins : goal.returns-clause-joins
returns-clause-joins g c = λ e.
    let apart = subst (λ (v : Groups). AreApart v.groups) c.self.view_is c.self.invariant.1.0 in
    let some = subst (λ (v : Groups). ArePeopled v.groups) c.self.view_is c.self.invariant.1.1 in
    let at = c.group.ensures ∙ (λ j. get_or (c.self.view_is j).groups c.args.index c.group.result.now) in
    rejoins_all c.args.session c.args.request c.args.self.now c.args.index c.group.result.now apart some e at c.call_again.new.self c.renew_group.new.self (sym c.is_repeat.ensures ∙ c.if-is_repeat.false)
    (c.in_ok-call_again.ensures.calls c.args.request.group e)
    (c.renew_group.ensures ∙ (λ j. move_one (ap (λ (q : JoinRequest). q.group) c.request.view_is j) (renewal c.call_again.new.self.settings c.call_again.new.self.now) c.call_again.new.self))
