use Rattle.swept_contents.proofs.DirtyBatches.{no_older}
use Rattle.swept_contents.proofs.looking.no_older_record_stands_before.Goals as goal

pub returns : goal.returns
returns c = no_older
