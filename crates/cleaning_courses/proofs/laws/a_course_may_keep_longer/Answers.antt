use Rattle.cleaning_courses.proofs.OverTime.{keeps_shorter}
use Rattle.cleaning_courses.proofs.laws.a_course_may_keep_longer.Goals as goal

pub returns : goal.returns
returns c = λ keep longer x steps less course. keeps_shorter keep longer less x steps course
