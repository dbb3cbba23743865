use Rattle.cleaning_policy.proofs.Following.{may_follow}
use Rattle.cleaning_policy.proofs.laws.a_frame_may_follow.Goals as goal

pub returns : goal.returns
returns c = may_follow
