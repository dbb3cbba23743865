use Rattle.cleaning_marks.proofs.Meaning.{believed_only, believed_whole}
use Rattle.cleaning_marks.proofs.laws.believed_is_as_it_was.Goals as goal

pub returns-clause-only : goal.returns-clause-only
returns-clause-only c = believed_only

pub returns-clause-whole : goal.returns-clause-whole
returns-clause-whole c = believed_whole
