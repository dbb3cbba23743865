use Rattle.content_laws.proofs.WindowPass.{one_more}
use Rattle.content_laws.proofs.producer_windows.window_of_one_more.Goals as goal

pub returns : goal.returns
returns c = one_more
