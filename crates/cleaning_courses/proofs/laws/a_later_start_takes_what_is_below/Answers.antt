use Rattle.cleaning_courses.proofs.Cleaned.{cut_records}
use Rattle.cleaning_courses.proofs.laws.a_later_start_takes_what_is_below.Goals as goal

pub returns : goal.returns
returns c = cut_records
