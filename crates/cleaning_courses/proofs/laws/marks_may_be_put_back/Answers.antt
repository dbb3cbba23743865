use Rattle.cleaning_courses.proofs.Marks.{may_be_put_back}
use Rattle.cleaning_courses.proofs.laws.marks_may_be_put_back.Goals as goal

pub returns : goal.returns
returns c = may_be_put_back
