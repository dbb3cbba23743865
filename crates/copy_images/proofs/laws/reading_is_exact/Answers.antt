use Rattle.copy_images.proofs.ReadBack.{image_read, image_is_read}
use Rattle.copy_images.proofs.laws.reading_is_exact.Goals as goal

pub returns-clause-reads : goal.returns-clause-reads
returns-clause-reads c = image_is_read

pub returns-clause-reads_only_images : goal.returns-clause-reads_only_images
returns-clause-reads_only_images c = image_read
