use Rattle.cleaning_courses.proofs.Between.{accepted_between}
use Rattle.cleaning_courses.proofs.laws.an_accepted_start_is_between_batches.Goals as goal

pub returns : goal.returns
returns c = λ x start content is. accepted_between x content start is
