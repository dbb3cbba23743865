use Rattle.broker_laws.proofs.EffectsApart.{cleans_there, trims_there, takes_nothing}
use Rattle.broker_laws.proofs.laws.effects_are_told_apart.Goals as goal

pub returns-clause-one_cleaning : goal.returns-clause-one_cleaning
returns-clause-one_cleaning c = cleans_there

pub returns-clause-one_cut : goal.returns-clause-one_cut
returns-clause-one_cut c = trims_there

pub returns-clause-leaders_take_nothing : goal.returns-clause-leaders_take_nothing
returns-clause-leaders_take_nothing c = takes_nothing
