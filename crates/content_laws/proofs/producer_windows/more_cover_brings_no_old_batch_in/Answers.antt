use Rattle.content_laws.proofs.CopyParts.{more_cover}
use Rattle.content_laws.proofs.producer_windows.more_cover_brings_no_old_batch_in.Goals as goal

pub returns : goal.returns
returns c = more_cover
