use Rattle.cleaning_courses.proofs.Whole.{whole_cleans, ends_of_whole, whole_comes}
use Rattle.cleaning_courses.proofs.laws.a_whole_cleaning_is_a_pass.Goals as goal

pub returns : goal.returns
returns c = record { cleans = whole_cleans; has_whole_ends = ends_of_whole; comes_to_its_bound = whole_comes }
