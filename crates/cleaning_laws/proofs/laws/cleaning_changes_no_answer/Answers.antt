use Rattle.cleaning_laws.proofs.FramesAlike.{frames_alike, follower_frames_alike}
use Rattle.cleaning_laws.proofs.laws.cleaning_changes_no_answer.Goals as goal

pub returns-clause-alike : goal.returns-clause-alike
returns-clause-alike c = frames_alike

pub returns-clause-followers_keep_the_logs : goal.returns-clause-followers_keep_the_logs
returns-clause-followers_keep_the_logs c = λ logs s z after after' answered others alike follows within one other may other_may same. follower_frames_alike logs s z after after' answered others alike within one other may other_may same follows
