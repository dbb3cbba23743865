use Rattle.member_frames.proofs.ToldFrames as law
use Rattle.member_frames.proofs.told.the_told_are_read.Goals as goal

pub returns-clause-tells_what_is_read : goal.returns-clause-tells_what_is_read
returns-clause-tells_what_is_read c = law.told_are_read

pub returns-clause-rises : goal.returns-clause-rises
returns-clause-rises c = law.list_rises
