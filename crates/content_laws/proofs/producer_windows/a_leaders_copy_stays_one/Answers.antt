use Rattle.content_laws.proofs.LeaderCopies.{leader_append, leader_clean, leader_part, leader_cut}
use Rattle.content_laws.proofs.producer_windows.a_leaders_copy_stays_one.Goals as goal

pub returns-clause-appending : goal.returns-clause-appending
returns-clause-appending c = λ x b log content plain leads new. leader_append x b log content plain leads new

pub returns-clause-cleaning : goal.returns-clause-cleaning
returns-clause-cleaning c = leader_clean

pub returns-clause-cleaning_a_part : goal.returns-clause-cleaning_a_part
returns-clause-cleaning_a_part c = leader_part

pub returns-clause-trimming : goal.returns-clause-trimming
returns-clause-trimming c = leader_cut
