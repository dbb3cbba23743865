use Rattle.cleaning_laws.proofs.ConfigStays.{config_stays}
use Rattle.cleaning_laws.proofs.RepliesAlike.{answer_alike}
use Rattle.cleaning_laws.proofs.FollowersAlike.{follower_alike}
use Rattle.cleaning_laws.proofs.laws.brokers_of_the_same_logs_answer_alike.Goals as goal

pub returns-clause-alike : goal.returns-clause-alike
returns-clause-alike c = answer_alike

pub returns-clause-followers_keep_the_logs : goal.returns-clause-followers_keep_the_logs
returns-clause-followers_keep_the_logs c = follower_alike

pub returns-clause-config : goal.returns-clause-config
returns-clause-config c = config_stays
