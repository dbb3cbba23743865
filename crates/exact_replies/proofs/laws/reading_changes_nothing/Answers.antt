use Rattle.exact_replies.proofs.OnlyReading.{unchanged}
use Rattle.exact_replies.proofs.laws.reading_changes_nothing.Goals as goal

pub returns : goal.returns
returns c = record { unchanged = unchanged }
