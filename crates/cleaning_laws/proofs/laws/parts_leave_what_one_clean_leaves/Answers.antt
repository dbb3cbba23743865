use Rattle.cleaning_laws.proofs.PartsAsked.{parts_leave}
use Rattle.cleaning_laws.proofs.laws.parts_leave_what_one_clean_leaves.Goals as goal

pub returns : goal.returns
returns c = λ s n q from ends. parts_leave s n q from ends
