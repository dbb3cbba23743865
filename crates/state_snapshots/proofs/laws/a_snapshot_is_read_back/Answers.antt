use Rattle.copy_images.proofs.FirstFaults.{one_copy}
use Rattle.state_snapshots.proofs.ReadBack.{have_images, whole_back}
use Rattle.state_snapshots.proofs.laws.a_snapshot_is_read_back.Goals as goal

pub returns : goal.returns
returns c = whole_back have_images one_copy
