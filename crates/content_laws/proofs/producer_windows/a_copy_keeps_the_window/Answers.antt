use Rattle.content_laws.proofs.LeaderCopies.{window_of_copy}
use Rattle.content_laws.proofs.producer_windows.a_copy_keeps_the_window.Goals as goal

pub returns : goal.returns
returns c = window_of_copy
