use Rattle.cleaning_courses.proofs.Cleaned.{cleaned_any, cleaned_without_gap}
use Rattle.cleaning_courses.proofs.laws.cleaning_goes_key_by_key.Goals as goal

pub returns-clause-without_a_gap : goal.returns-clause-without_a_gap
returns-clause-without_a_gap c = λ key u d x content whole across. cleaned_without_gap x content key u d whole across

pub returns-clause-with_any_gaps : goal.returns-clause-with_any_gaps
returns-clause-with_any_gaps c = λ key u d x content across. cleaned_any x content key u d across
