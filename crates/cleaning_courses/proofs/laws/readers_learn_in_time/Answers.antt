use Rattle.cleaning_courses.proofs.Learning.{learns}
use Rattle.cleaning_courses.proofs.laws.readers_learn_in_time.Goals as goal

pub returns : goal.returns
returns c = learns
