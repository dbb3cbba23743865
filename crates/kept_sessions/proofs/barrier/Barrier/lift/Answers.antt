use Rattle.std.proofs.Common.{rules, ◌≡◌, List, subst}
use Rattle.std.specs.Prelude.{not}
use Rattle.std.specs.List.{filter}
use Rattle.std.proofs.lemmas.Fn.{filter_same}
use Rattle.broker_state.specs.declared.place.Place.{Place}
use Rattle.kept_sessions.specs.Barring.{is_same_place}
use Rattle.kept_sessions.proofs.barrier.Barrier.lift.Goals as goal

pub returns : goal.returns
returns g c = subst (λ (places : List Place). c.retain.new.self.items ≡ filter (λ other. not (is_same_place other c.args.place)) places) c.self.view_is
    (filter_same _ _ _ (λ x b f' k. search rules) _ _ c.retain.ensures.filtered)
