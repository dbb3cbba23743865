use Rattle.swept_contents.proofs.KeptSwept.{clean_keeps, part_keeps}
use Rattle.swept_contents.proofs.keeping.cleanings_keep_it_swept.Goals as goal

pub returns : goal.returns
returns c = record { whole = clean_keeps; part = part_keeps }
