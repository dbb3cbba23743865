use Rattle.std.proofs.Common.{rules}
use Rattle.copy_images.specs.Reading.{IsBytes}
use Rattle.copy_requests.proofs.Imported.{read_as, read_fails}
use Rattle.copy_requests.proofs.import.read_copy.Goals as goal

pub returns-in-Ok : goal.returns-in-Ok
returns-in-Ok g c = read_as c.args.image.now c.in-Ok.copy c.in-Ok.ensures.accepts_an_image

pub returns-in-Err : goal.returns-in-Err
returns-in-Err g c =
    let bytes : IsBytes c.args.image.now = search rules in
    read_fails c.args.image.now c.in-Err.fault c.image_refused.result bytes c.in-Err.ensures.refuses_for_the_first_fault c.image_refused.ensures
