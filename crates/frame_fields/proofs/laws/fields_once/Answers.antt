use Rattle.frame_fields.proofs.FieldLaws as law
use Rattle.frame_fields.proofs.laws.fields_once.Goals as goal

pub returns-clause-some_outcome : goal.returns-clause-some_outcome
returns-clause-some_outcome c = law.read_or_fault

pub returns-clause-one_value : goal.returns-clause-one_value
returns-clause-one_value c = law.one_value

pub returns-clause-one_fault : goal.returns-clause-one_fault
returns-clause-one_fault c = law.one_fault

pub returns-clause-never_both : goal.returns-clause-never_both
returns-clause-never_both c = law.never_both
