use Rattle.cleaning_courses.specs.Timelines.{steps_of}
use Rattle.cleaning_courses.proofs.laws.readers_of_a_policy_learn_in_time.Goals as goal

pub returns : goal.returns
returns c = λ o i now x earlier moments line times.
    c.readers_learn_in_time.ensures o.keep_deletes now x (steps_of earlier moments) (c.a_policy_keeps_a_course.ensures o i x earlier moments line) times
