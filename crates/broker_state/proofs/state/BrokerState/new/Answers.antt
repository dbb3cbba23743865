use Rattle.std.proofs.Common.{refl, sym, rules, Fits, FitsSigned, w16, w64, to_z, of_z}
use Rattle.std.proofs.lemmas.Int.{to_z-of_z}
use Rattle.broker_state.specs.ConfigValues.{config_value}
use Rattle.broker_state.specs.Sound.{IsSoundConfig}
use Rattle.broker_state.proofs.NewStates.{fault_refuses, new_topics_are, new_topics_hold_nothing}
use Rattle.broker_state.proofs.SoundStates.{new_topics_hold, sound_of}
use Rattle.broker_state.proofs.state.BrokerState.new.Goals as goal

pub returns-in-Some-clause-refuses : goal.returns-in-Some-clause-refuses
returns-in-Some-clause-refuses g c = fault_refuses (config_value c.args.config) c.in-Some.fault c.in-Some.ensures

pub invariant_of-result : goal.invariant_of-result
invariant_of-result g c =
    let config : IsSoundConfig (config_value c.args.config) = record { valid = sym c.in-None.ensures; node_id = search rules; port = let fits : Fits w16 c.args.config.port = search rules in fits.fits; first_producer = search rules } in
    let fits : FitsSigned w64 (to_z w64 (of_z w64 c.args.config.first_producer)) = search rules in
    (config, new_topics_are (config_value c.args.config) c.in-Ok.topics.items c.in-Ok.ensures, new_topics_hold (config_value c.args.config) c.in-Ok.topics.items c.in-Ok.ensures, fits)

pub returns-in-Ok-clause-is_new : goal.returns-in-Ok-clause-is_new
returns-in-Ok-clause-is_new g c =
    let fits : FitsSigned w64 c.args.config.first_producer = search rules in
    λ i. record { config = config_value c.args.config; topics = new_topics_hold_nothing (config_value c.args.config) c.in-Ok.topics.items c.in-Ok.ensures i; next_producer = to_z-of_z w64 c.args.config.first_producer fits i }

pub returns-in-Ok-clause-is_sound : goal.returns-in-Ok-clause-is_sound
returns-in-Ok-clause-is_sound g c =
    let config : IsSoundConfig (config_value c.args.config) = record { valid = sym c.in-None.ensures; node_id = search rules; port = let fits : Fits w16 c.args.config.port = search rules in fits.fits; first_producer = search rules } in
    let fits : FitsSigned w64 (to_z w64 (of_z w64 c.args.config.first_producer)) = search rules in
    sound_of (config_value c.args.config) c.in-Ok.topics.items _ _ refl config (new_topics_are (config_value c.args.config) c.in-Ok.topics.items c.in-Ok.ensures) (new_topics_hold (config_value c.args.config) c.in-Ok.topics.items c.in-Ok.ensures) fits
