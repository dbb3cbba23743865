use Rattle.std.proofs.Common.{◌∙◌, ap, []}
use Rattle.std.specs.List.{filter, fold}
use Rattle.content.specs.Windows.{entry_of, with_entry}
use Rattle.content_laws.proofs.Windows.{from}
use Rattle.content_laws.proofs.WindowPass.{pass, empty_window}
use Rattle.content_laws.proofs.producer_windows.one_pass_gives_the_window.Goals as goal

pub returns : goal.returns
returns c = λ low p hs rise least.
    ap (λ w. fold (λ w h. with_entry w (entry_of h)) w (filter (from p) hs)) (empty_window p least) ∙ pass low p [] hs rise least
