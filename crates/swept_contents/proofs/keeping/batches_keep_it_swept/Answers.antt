use Rattle.swept_contents.proofs.KeptSwept.{late_keeps, behind_keeps}
use Rattle.swept_contents.proofs.keeping.batches_keep_it_swept.Goals as goal

pub returns : goal.returns
returns c = record {
  behind = λ below upto x b content log which low under swept. behind_keeps below upto x b content log swept which low under;
  late = λ below upto x b content log which swept. late_keeps below upto x b content log swept which;
}
