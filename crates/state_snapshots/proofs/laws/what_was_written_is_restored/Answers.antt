use Rattle.copy_images.proofs.FirstFaults.{one_copy}
use Rattle.state_snapshots.proofs.ReadBack.{have_images, read_back}
use Rattle.state_snapshots.proofs.laws.what_was_written_is_restored.Goals as goal

pub returns : goal.returns
returns c = read_back have_images one_copy
