use Rattle.deltas.proofs.Known.{add_knows, clean_knows, part_knows, cut_knows, join_knows_left, join_knows_right, patch_knows}
use Rattle.deltas.proofs.knowing.what_is_known_stays_known.Goals as goal

pub returns : goal.returns
returns c = record { adding = add_knows; cleaning = clean_knows; cleaning_a_part = part_knows; cutting = cut_knows; merging = join_knows_left; merging_in_other_order = join_knows_right; patching = patch_knows }
