use Rattle.swept_contents.proofs.DirtyBatches.{dirty_tells}
use Rattle.swept_contents.proofs.looking.the_dirty_batches_tell_what_is_superseded.Goals as goal

pub returns : goal.returns
returns c = dirty_tells
