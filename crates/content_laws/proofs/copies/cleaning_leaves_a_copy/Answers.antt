use Rattle.content_laws.proofs.CopyClean.{copy_of_clean}
use Rattle.content_laws.proofs.copies.cleaning_leaves_a_copy.Goals as goal

pub returns : goal.returns
returns c = λ upto tomb_before x log content plain copy. copy_of_clean upto tomb_before x log content plain copy
