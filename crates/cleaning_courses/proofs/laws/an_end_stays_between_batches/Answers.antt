use Rattle.cleaning_courses.proofs.Between.{end_stays_between}
use Rattle.cleaning_courses.proofs.laws.an_end_stays_between_batches.Goals as goal

pub returns : goal.returns
returns c = end_stays_between
