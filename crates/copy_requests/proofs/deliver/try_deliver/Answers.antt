use Rattle.std.proofs.Common.{◌≡◌, [], ◌∷◌, Some, subst}
use Rattle.std.specs.Int.{w32}
use Rattle.std.proofs.lemmas.Int.{to_z-of_z}
use Rattle.answering.specs.Lists.{first_some}
use Rattle.broker_state.specs.Checks.{unknown, not_follower}
use Rattle.copy_requests.proofs.Entries.{deliver_place_fails}
use Rattle.copy_requests.proofs.deliver.try_deliver.Goals as goal

pub returns-in-Err : goal.returns-in-Err
returns-in-Err g c =
    deliver_place_fails c.args.state.now (record { topic = c.args.topic.now; partition = c.args.partition; batch = c.args.batch.now }) c.in-Err.fault
    (subst (λ p. first_some (unknown c.args.state.now c.args.topic.now p ∷ not_follower c.args.state.now ∷ []) ≡ Some c.in-Err.fault) (to_z-of_z w32 c.args.partition c.ranges.partition) c.in-Err.ensures.refuses)
