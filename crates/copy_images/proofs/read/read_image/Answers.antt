use Rattle.copy_images.specs.Judging.{ranges_of}
use Rattle.copy_images.proofs.Refused.{read_is_image, is_an_image}
use Rattle.copy_images.proofs.read.read_image.Goals as goal

pub returns-in-Ok-clause-accepts_an_image : goal.returns-in-Ok-clause-accepts_an_image
returns-in-Ok-clause-accepts_an_image g c =
    let parts = c.in_ok-parts.parts in
    let found = c.in_ok-parts.ensures in
    read_is_image c.args.bytes.now (ranges_of parts.ranges.now) parts.count parts.batches.now (λ i. (c.type_inv.bytes i).fits) found.starts found.front c.in-Ok.copy parts.start found.start found.judged c.in-Ok.ensures

pub returns-in-Err-clause-refuses_for_the_first_fault : goal.returns-in-Err-clause-refuses_for_the_first_fault
returns-in-Err-clause-refuses_for_the_first_fault g c =
    let parts = c.in_ok-parts.parts in
    let found = c.in_ok-parts.ensures in
    is_an_image c.args.bytes.now (ranges_of parts.ranges.now) parts.count parts.batches.now (λ i. (c.type_inv.bytes i).fits) found.starts found.front parts.start found.start found.judged
