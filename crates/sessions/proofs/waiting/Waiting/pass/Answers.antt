use Rattle.std.proofs.Common.{◌≡◌, ap, rules, subst, ◌∙◌}
use Rattle.broker_state.specs.State.{content_at}
use Rattle.sessions.specs.Waiting.{WaitingState, WaitsState, asleep_at, wait_at}
use Rattle.sessions.proofs.Passed.{HasLooked, looked_all, looked_here, others_wait}
use Rattle.sessions.proofs.waiting.Waiting.pass.Goals as goal

pub loop-index-preserved : goal.loop-index-preserved
loop-index-preserved g c =
    looked_here c.args.node.now c.args.noted c.args.self.now c.state.result.now c.loop-index.self c.look_at.new.self c.loop-index.index c.state.ensures
    c.look_at.ensures.keys c.look_at.ensures.dues c.look_at.ensures.looks c.loop-index.invariant

pub returns-clause-wait_on : goal.returns-clause-wait_on
returns-clause-wait_on g c =
    let last : c.loop-index.index ≡ c.self.inside.marked = search rules in
    let so_far = subst (HasLooked c.args.node.now c.args.noted c.args.self.now c.loop-index.self) (last ∙ ap (λ (w : WaitingState). w.marked) c.self.view_is) c.loop-index.invariant in
    λ s ps asked all marked leaves. c.leave.ensures.wait_on c.args.node.now (content_at c.args.node.now) asked
    (looked_all c.args.node.now c.args.noted c.args.self.now c.loop-index.self _ so_far (ap (λ (w : WaitingState). w.waits) c.self-2.view_is) (ap (λ (w : WaitingState). w.times) c.self-2.view_is)
    (ap (λ (w : WaitingState). w.stands) c.self-2.view_is) s ps asked all marked leaves)

pub returns-clause-others : goal.returns-clause-others
returns-clause-others g c =
    let waits = ap (λ (w : WaitingState). w.waits) c.self-2.view_is in
    others_wait c.args.number c.args.self.now.waits c.loop-index.self.waits c.leave.new.self.waits c.loop-index.invariant.dues c.loop-index.invariant.slept
    (λ k other. c.leave.ensures.others k other ∙ ap (λ (w : WaitsState). wait_at w k) waits) (λ k other. c.leave.ensures.asleep k other ∙ ap (λ (w : WaitsState). asleep_at w k) waits)
