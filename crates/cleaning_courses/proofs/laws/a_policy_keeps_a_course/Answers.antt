use Rattle.cleaning_courses.proofs.OverTime.{course_of}
use Rattle.cleaning_courses.proofs.laws.a_policy_keeps_a_course.Goals as goal

pub returns : goal.returns
returns c = λ o i x earlier moments line. course_of c.frames_are_bounded.ensures o i x earlier moments line
