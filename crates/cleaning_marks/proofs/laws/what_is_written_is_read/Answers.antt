use Rattle.cleaning_marks.proofs.Meaning.{no_fault, one_meaning}
use Rattle.cleaning_marks.proofs.laws.what_is_written_is_read.Goals as goal

pub returns-clause-one_meaning : goal.returns-clause-one_meaning
returns-clause-one_meaning c = one_meaning

pub returns-clause-no_fault : goal.returns-clause-no_fault
returns-clause-no_fault c = no_fault
