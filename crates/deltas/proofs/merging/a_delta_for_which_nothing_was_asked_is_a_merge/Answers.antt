use Rattle.deltas.proofs.Nothing.{whole_part, whole_patch, whole_accepted}
use Rattle.deltas.proofs.merging.a_delta_for_which_nothing_was_asked_is_a_merge.Goals as goal

pub returns : goal.returns
returns c = record { all_is_sent = whole_part; merge = whole_patch; accepted = whole_accepted }
