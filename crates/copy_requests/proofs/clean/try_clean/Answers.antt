use Rattle.std.proofs.Common.{subst}
use Rattle.std.specs.Int.{w32}
use Rattle.std.proofs.lemmas.Int.{to_z-of_z}
use Rattle.broker_state.specs.Places.{IsPlaceOf}
use Rattle.broker_state.proofs.OwnContent.{unchanged_at}
use Rattle.copy_requests.proofs.Entries.{clean_lacks_memory}
use Rattle.copy_requests.proofs.clean.try_clean.Goals as goal

pub returns-in-Err-clause-does : goal.returns-in-Err-clause-does
returns-in-Err-clause-does g c =
    let of = subst (λ p. IsPlaceOf c.args.state.now c.args.topic.now p c.in-Some.place) (to_z-of_z w32 c.args.partition c.ranges.partition) c.in-Some.ensures.found in
    let changed = c.in-Err.ensures c.args.topic.now c.args.partition of in
    clean_lacks_memory c.args.state.now c.change_at.new.self c.args.topic.now c.args.partition c.args.cleaning of.known
    (unchanged_at c.args.state.now c.change_at.new.self c.args.topic.now c.args.partition changed.0 changed.1 changed.2)
