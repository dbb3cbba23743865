use Rattle.std.proofs.Common.{subst}
use Rattle.std.specs.Int.{w32}
use Rattle.std.proofs.lemmas.Int.{to_z-of_z}
use Rattle.broker_state.specs.Places.{IsPlaceOf}
use Rattle.broker_state.proofs.Restored.{accepted, restored, refused, unchanged}
use Rattle.broker_state.proofs.state.BrokerState.restore.Goals as goal

pub returns : goal.returns
returns g c =
    let s = c.args.self.now in
    let name = c.args.topic.now in
    let p = c.args.partition in
    let of = subst (λ p. IsPlaceOf s name p c.in-Some.place) (to_z-of_z w32 p c.ranges.partition) c.in-Some.ensures.found in
    let made = c.change_at.ensures name p of in
    record {
      accepts = accepted s c.change_at.new.self name p c.args.copy c.change_at.result of.known made;
      restores = restored s c.change_at.new.self name p c.args.copy c.change_at.result made;
      refuses = refused s c.change_at.new.self name p c.args.copy c.change_at.result of.known made;
      unchanged_on_error = unchanged s c.change_at.new.self name p c.args.copy c.change_at.result made;
    }
