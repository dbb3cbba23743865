use Rattle.kept_rotations.proofs.Widths.{not_wide}
use Rattle.kept_rotations.proofs.laws.none_is_due_for_room_behind_one.Goals as goal

pub returns : goal.returns
returns c = not_wide
