use Rattle.member_frames.proofs.Rows.{join_read}
use Rattle.member_frames.proofs.examples.a_first_join.Goals as goal

pub returns : goal.returns
returns c = join_read
