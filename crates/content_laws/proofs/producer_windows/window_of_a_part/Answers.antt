use Rattle.content_laws.proofs.WindowPart.{in_window_part}
use Rattle.content_laws.proofs.producer_windows.window_of_a_part.Goals as goal

pub returns : goal.returns
returns c = λ hs h test is. in_window_part test hs h is
