use Rattle.cleaning_laws.proofs.AllAlike.{all_alike, followers_alike, new_all_alike, new_follower_all_alike}
use Rattle.cleaning_laws.proofs.laws.cleaning_changes_no_reply.Goals as goal

pub returns-clause-alike : goal.returns-clause-alike
returns-clause-alike c = all_alike

pub returns-clause-followers_keep_the_logs : goal.returns-clause-followers_keep_the_logs
returns-clause-followers_keep_the_logs c = followers_alike

pub returns-clause-from_the_start : goal.returns-clause-from_the_start
returns-clause-from_the_start c = new_all_alike

pub returns-clause-follower_from_the_start : goal.returns-clause-follower_from_the_start
returns-clause-follower_from_the_start c = new_follower_all_alike
