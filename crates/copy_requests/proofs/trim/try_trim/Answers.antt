use Rattle.std.proofs.Common.{subst}
use Rattle.std.specs.Int.{w32}
use Rattle.std.proofs.lemmas.Int.{to_z-of_z}
use Rattle.broker_state.specs.Places.{IsPlaceOf}
use Rattle.copy_requests.proofs.Trims.{trim_done, trim_refused}
use Rattle.copy_requests.proofs.trim.try_trim.Goals as goal

pub returns-in-Ok : goal.returns-in-Ok
returns-in-Ok g c =
    let of = subst (λ p. IsPlaceOf c.args.state.now c.args.topic.now p c.in-Some.place) (to_z-of_z w32 c.args.partition c.ranges.partition) c.in-Some.ensures.found in
    trim_done c.args.state.now c.change_at.new.self (record { topic = c.args.topic.now; partition = c.args.partition; start = c.args.trimming.start }) of.known
    (c.in-Ok.ensures c.args.topic.now c.args.partition of)

pub returns-in-Err : goal.returns-in-Err
returns-in-Err g c =
    let of = subst (λ p. IsPlaceOf c.args.state.now c.args.topic.now p c.in-Some.place) (to_z-of_z w32 c.args.partition c.ranges.partition) c.in-Some.ensures.found in
    trim_refused c.args.state.now c.change_at.new.self (record { topic = c.args.topic.now; partition = c.args.partition; start = c.args.trimming.start }) c.in-Err.fault of.known
    (c.in-Err.ensures c.args.topic.now c.args.partition of)
