use Rattle.exact_replies.proofs.InPart.{of_entries}
use Rattle.exact_replies.proofs.laws.only_entries_are_done_in_part.Goals as goal

pub returns : goal.returns
returns c = record { is_of_entries = of_entries }
