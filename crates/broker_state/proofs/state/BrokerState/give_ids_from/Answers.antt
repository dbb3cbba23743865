use Rattle.std.proofs.Common.{◌≡◌, FitsSigned, w64, ap, arith}
use Rattle.std.proofs.lemmas.Int.{ints, to_z-of_z}
use Rattle.broker_state.specs.State.{State}
use Rattle.broker_state.proofs.state.BrokerState.give_ids_from.Goals as goal

pub returns-clause-is_not_early : goal.returns-clause-is_not_early
returns-clause-is_not_early g c =
    let fits : FitsSigned w64 c.self.inside.config.first_producer = c.self.invariant.0.first_producer in
    let same = to_z-of_z w64 c.args.id c.ranges.id in
    let first = to_z-of_z w64 c.self.inside.config.first_producer fits in
    let here : c.self.inside.config.first_producer ≡ c.args.self.now.config.first_producer = ap (λ (s : State). s.config.first_producer) c.self.view_is in
    let test = c.if-id-self.false in
    omega (arith, ints, same, first, here, test)
