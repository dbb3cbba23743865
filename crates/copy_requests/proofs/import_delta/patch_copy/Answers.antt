use Rattle.std.proofs.Common.{rules}
use Rattle.copy_images.specs.Reading.{IsBytes}
use Rattle.copy_requests.proofs.Patched.{patches, does_not_patch}
use Rattle.copy_requests.proofs.import_delta.patch_copy.Goals as goal

pub returns-in-Ok : goal.returns-in-Ok
returns-in-Ok g c =
    let bytes : IsBytes c.args.delta.now = search rules in
    let made = c.in-Ok.ensures.takes_a_delta in
    patches c.args.copy.now c.args.delta.now c.end.ensures.is_content bytes c.apply_delta.new.copy made.0 made.1 made.2

pub returns-in-Err : goal.returns-in-Err
returns-in-Err g c =
    let bytes : IsBytes c.args.delta.now = search rules in
    does_not_patch c.args.copy.now c.args.delta.now c.end.ensures.is_content bytes c.apply_delta.new.copy c.in-Err.fault c.patch_refused.result c.in-Err.ensures.refuses c.in-Err.ensures.unchanged_on_error c.patch_refused.ensures
