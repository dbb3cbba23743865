use Rattle.std.proofs.Common.{◌≡◌, [], ◌∷◌, Some, None, subst}
use Rattle.std.specs.Int.{w32}
use Rattle.std.proofs.lemmas.Int.{to_z-of_z}
use Rattle.answering.specs.Lists.{first_some}
use Rattle.broker_state.specs.Places.{IsPlaceOf}
use Rattle.broker_state.specs.Checks.{unknown, not_follower}
use Rattle.copy_requests.proofs.DeltaEntries.{delta_place_fails, delta_done}
use Rattle.copy_requests.proofs.import_delta.try_import_delta.Goals as goal

pub returns-in-Ok : goal.returns-in-Ok
returns-in-Ok g c =
    let s = c.args.state.now in
    let name = c.args.topic.now in
    let number = to_z-of_z w32 c.args.partition c.ranges.partition in
    let of = subst (λ p. IsPlaceOf s name p c.in-Ok.place) number c.in-Ok.ensures.is_place in
    let made = c.change_at.ensures name c.args.partition of in
    delta_done s (record { topic = name; partition = c.args.partition; delta = c.args.delta.now }) c.change_at.new.self c.change_at.result
    (subst (λ p. first_some (unknown s name p ∷ not_follower s ∷ []) ≡ None) number c.in-Ok.ensures.has_no_fault)
    (made.0, made.1 c.in-Ok.ensures.follows, made.2)

pub returns-in-Err : goal.returns-in-Err
returns-in-Err g c =
    delta_place_fails c.args.state.now (record { topic = c.args.topic.now; partition = c.args.partition; delta = c.args.delta.now }) c.in-Err.fault
    (subst (λ p. first_some (unknown c.args.state.now c.args.topic.now p ∷ not_follower c.args.state.now ∷ []) ≡ Some c.in-Err.fault) (to_z-of_z w32 c.args.partition c.ranges.partition) c.in-Err.ensures.refuses)
