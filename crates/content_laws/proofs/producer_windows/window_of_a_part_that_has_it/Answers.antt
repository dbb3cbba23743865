use Rattle.std.proofs.Common.{sym, ap, ◌∙◌}
use Rattle.std.specs.List.{filter, list_all}
use Rattle.content_laws.proofs.ByOffset.{rises-filter}
use Rattle.content_laws.proofs.Windows.{base_of, window_is}
use Rattle.content_laws.proofs.WindowPart.{newest_part}
use Rattle.content_laws.proofs.Epochs.{never_falls_is}
use Rattle.content_laws.proofs.producer_windows.window_of_a_part_that_has_it.Goals as goal

pub returns : goal.returns
returns c = λ low p hs test rise falls pass.
    let is = window_is p low hs rise in
    window_is p low (filter test hs) (rises-filter base_of test low hs rise) ∙ newest_part p test hs (never_falls_is p hs falls) (ap (list_all test) (sym is) ∙ pass) ∙ sym is
