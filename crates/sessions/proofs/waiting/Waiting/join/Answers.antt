use Rattle.std.proofs.Common.{◌≡◌, is_some, refl, subst, sym, true, ◌∙◌}
use Rattle.std.specs.Prelude.{OnOk}
use Rattle.request_frames.specs.Fetch.{FetchValue}
use Rattle.broker_state.specs.State.{State, content_at}
use Rattle.fetch_waits.specs.Waiting.{awaited_bytes}
use Rattle.sessions.specs.Waiting.{WaitingState, asleep_at}
use Rattle.sessions.specs.Asleep.{AsksFirst}
use Rattle.sessions.specs.Joining.{AreCounted, Joins, entries_in}
use Rattle.sessions.proofs.Joining.{joins_then, same_joins}
use Rattle.sessions.proofs.Standers.{standers_kept}
use Rattle.sessions.proofs.WaitingOn.{all_joined, all_woken, due_by, due_as_it_was, still_unnamed}
use Rattle.sessions.proofs.waiting.Waiting.join.Goals as goal

pub returns-then-is_asleep-clause-waits : goal.returns-then-is_asleep-clause-waits
returns-then-is_asleep-clause-waits g c =
    still_unnamed c.args.self.now.waits c.args.number (subst (λ (w : WaitingState). is_some (asleep_at w.waits c.args.number) ≡ true) c.self.view_is c.if-is_asleep.ensures)

pub returns-then-is_asleep-clause-due : goal.returns-then-is_asleep-clause-due
returns-then-is_asleep-clause-due g c = due_as_it_was c.args.due _

pub returns-then-is_err-clause-wait_on : goal.returns-then-is_err-clause-wait_on
returns-then-is_err-clause-wait_on g c asked all asks waits =
    let s = c.args.node.now in
    let k = c.args.number in
    let joins = subst (λ (t : State). Joins t k (c.args.due, k) c.leave.new.self c.add_first-joined.new.self) c.state.ensures c.add_first-joined.ensures.joins in
    let woken = same_joins s k (c.args.due, k) _ c.add_first-joined.new.self _ c.self-then-is_err.view_is refl refl (c.wake.ensures.waits k) (λ j other. c.wake.ensures.waits j) c.wake.ensures.others in
    let left = c.leave.ensures.wait_on s (content_at s) asked all in
    let standers = standers_kept _ c.add_first-joined.new.self _ c.self-then-is_err.view_is c.wake.ensures.waits refl (c.add_first-joined.ensures.standers left.standers) in
    c.leave-then-is_err.ensures.wait_on s (content_at s) asked
    (all_woken s k c.args.due c.args.held.now c.leave.new.self _ asked left (joins_then s k (c.args.due, k) c.leave.new.self c.add_first-joined.new.self _ joins woken) standers c.leave.ensures.waits_no_more
    c.wake.ensures.wakes)

pub returns-else-is_err-clause-waits : goal.returns-else-is_err-clause-waits
returns-else-is_err-clause-waits g c = c.add_first-joined.ensures.waits

pub returns-else-is_err-clause-due : goal.returns-else-is_err-clause-due
returns-else-is_err-clause-due g c =
    due_by c.state.result.now c.args.number c.args.due c.args.self.now c.leave.new.self c.add_first-joined.new.self c.add_first-joined.ensures.joins c.leave.ensures.waits_no_more

pub returns-else-is_err-clause-wait_on : goal.returns-else-is_err-clause-wait_on
returns-else-is_err-clause-wait_on g c asked all asks waits =
    let s = c.args.node.now in
    let k = c.args.number in
    let new = c.add_first-joined.new.self in
    let joins = subst (λ (t : State). Joins t k (c.args.due, k) c.leave.new.self new) c.state.ensures c.add_first-joined.ensures.joins in
    let counted = subst (λ (t : State). OnOk c.add_first-joined.result ((q : FetchValue) → AsksFirst c.args.held.now q → AreCounted t new k (awaited_bytes q) (entries_in q.topics))) c.state.ensures c.add_first-joined.ensures.counts in
    let left = c.leave.ensures.wait_on s (content_at s) asked all in
    all_joined s k c.args.due c.args.held.now c.leave.new.self new asked left joins (c.add_first-joined.ensures.standers left.standers) c.leave.ensures.waits_no_more c.add_first-joined.result (sym c.is_err.ensures.value ∙ c.if-is_err.false)
    c.add_first-joined.ensures.listed counted asks waits
