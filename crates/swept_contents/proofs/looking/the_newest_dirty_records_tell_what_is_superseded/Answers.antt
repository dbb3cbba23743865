use Rattle.swept_contents.proofs.Newest.{newest_tells}
use Rattle.swept_contents.proofs.looking.the_newest_dirty_records_tell_what_is_superseded.Goals as goal

pub returns : goal.returns
returns c = newest_tells
