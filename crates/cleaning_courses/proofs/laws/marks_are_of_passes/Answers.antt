use Rattle.cleaning_courses.proofs.Marks.{marks_of_passes}
use Rattle.cleaning_courses.proofs.laws.marks_are_of_passes.Goals as goal

pub returns : goal.returns
returns c = marks_of_passes
