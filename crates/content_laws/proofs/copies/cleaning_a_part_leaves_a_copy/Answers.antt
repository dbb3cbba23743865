use Rattle.content_laws.proofs.CopyClean.{copy_of_part}
use Rattle.content_laws.proofs.copies.cleaning_a_part_leaves_a_copy.Goals as goal

pub returns : goal.returns
returns c = copy_of_part
