use Rattle.std.proofs.Common.{◌≡◌, ◌∙◌, ap, arith, false, length, sym, true}
use Rattle.std.specs.Prelude.{◌==◌}
use Rattle.std.proofs.lemmas.Result.{IfOk-weaker}
use Rattle.group_coordinator.specs.Giving.{reply_by}
use Rattle.group_coordinator.specs.Requests.{JoinRequest}
use Rattle.group_coordinator.proofs.Joined.{named_replied}
use Rattle.group_coordinator.proofs.coordinator.Coordinator.join_group.Goals as goal

pub returns-then-is_empty-clause-replies : goal.returns-then-is_empty-clause-replies
returns-then-is_empty-clause-replies g c =
    let none : (0 == length c.request.inside.member.now) ≡ true = grind (arith, c.is_empty.ensures, c.if-is_empty.true) in
    let here : (0 == length c.args.request.member) ≡ true = ap (λ (q : JoinRequest). 0 == length q.member) (sym c.request.view_is) ∙ none in
    IfOk-weaker c.join_new.result _ _ (λ e replied. replied here) c.join_new.ensures.replies

pub returns-else-is_empty-clause-replies : goal.returns-else-is_empty-clause-replies
returns-else-is_empty-clause-replies g c =
    let some : (0 == length c.request.inside.member.now) ≡ false = grind (arith, c.is_empty.ensures, c.if-is_empty.false) in
    let here : (0 == length c.args.request.member) ≡ false = ap (λ (q : JoinRequest). 0 == length q.member) (sym c.request.view_is) ∙ some in
    IfOk-weaker c.join_named.result _ _
    (λ e replied. named_replied c.args.session c.args.client.now c.args.request c.args.self.now (reply_by e c.args.session c.join_named.new.self) here replied) c.join_named.ensures.replies
