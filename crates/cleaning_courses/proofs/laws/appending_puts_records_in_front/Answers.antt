use Rattle.cleaning_courses.proofs.Appended.{records_appended}
use Rattle.cleaning_courses.proofs.laws.appending_puts_records_in_front.Goals as goal

pub returns : goal.returns
returns c = λ key d b content log at_end. records_appended d b content log at_end key
