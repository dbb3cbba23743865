use Rattle.content_laws.proofs.ContentSteps.{content_cut}
use Rattle.content_laws.proofs.CopyCut.{copy_of_cut}
use Rattle.content_laws.proofs.CopyStarts.{accepted_boundary, accepted_in_range}
use Rattle.content_laws.proofs.copies.cutting_leaves_a_copy.Goals as goal

pub returns-clause-at_a_boundary : goal.returns-clause-at_a_boundary
returns-clause-at_a_boundary c = λ x start log content plain copy boundary least most. copy_of_cut x start log content plain copy boundary least (content_cut x start content least most)

pub returns-clause-at_an_accepted_start : goal.returns-clause-at_an_accepted_start
returns-clause-at_an_accepted_start c = λ x start log content plain copy accepted.
    copy_of_cut x start log content plain copy (accepted_boundary x log content plain copy start accepted) accepted.from_start (content_cut x start content accepted.from_start (accepted_in_range x log content plain copy start accepted))
