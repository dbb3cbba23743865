use Rattle.cleaning_courses.proofs.PlacesBelow.{place_between, cleaned_to_place}
use Rattle.cleaning_courses.proofs.laws.a_cleaning_is_up_to_a_place.Goals as goal

pub returns-clause-same : goal.returns-clause-same
returns-clause-same c = λ u d x content. cleaned_to_place x content u d

pub returns-clause-between : goal.returns-clause-between
returns-clause-between c = λ u x content. place_between x content u
