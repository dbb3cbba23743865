use Rattle.cleaning_laws.proofs.NewAlike.{new_alike, new_follower_alike}
use Rattle.cleaning_laws.proofs.laws.a_new_broker_holds_copies_of_the_logs.Goals as goal

pub returns-clause-of_empty_logs : goal.returns-clause-of_empty_logs
returns-clause-of_empty_logs c = new_alike

pub returns-clause-follower_of_any_logs : goal.returns-clause-follower_of_any_logs
returns-clause-follower_of_any_logs c = new_follower_alike
