use Rattle.std.proofs.Common.{FitsSigned, w64, sym, subst, map}
use Rattle.std.proofs.lemmas.Int.{to_z-of_z}
use Rattle.broker_state.specs.ConfigValues.{config_value}
use Rattle.broker_state.specs.Parts.{topic_contents}
use Rattle.broker_state.proofs.NextIds.{id_given, none_left}
use Rattle.broker_state.proofs.state.BrokerState.give_producer_id.Goals as goal

pub returns-in-Some : goal.returns-in-Some
returns-in-Some g c =
    let fits : FitsSigned w64 c.self.inside.next_producer = c.self.invariant.3 in
    id_given (config_value c.self.inside.config) (map topic_contents c.self.inside.topics.items) c.self.inside.next_producer _ c.in-Some.next _ c.args.self.now c.self.view_is (to_z-of_z w64 c.self.inside.next_producer fits)
    c.in-Some.ensures.0 c.in-Some.ensures.1 (to_z-of_z w64 c.in-Some.next (subst (FitsSigned w64) (sym c.in-Some.ensures.1) c.in-Some.ensures.0))

pub returns-in-None : goal.returns-in-None
returns-in-None g c =
    let fits : FitsSigned w64 c.self.inside.next_producer = c.self.invariant.3 in
    none_left (config_value c.self.inside.config) (map topic_contents c.self.inside.topics.items) c.self.inside.next_producer _ c.args.self.now c.self.view_is fits (to_z-of_z w64 c.self.inside.next_producer fits) c.in-None.ensures
