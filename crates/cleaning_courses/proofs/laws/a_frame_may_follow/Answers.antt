use Rattle.cleaning_courses.proofs.Following.{frame_may_follow}
use Rattle.cleaning_courses.proofs.laws.a_frame_may_follow.Goals as goal

pub returns : goal.returns
returns c = frame_may_follow
