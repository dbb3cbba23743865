use Rattle.std.proofs.Common.{subst}
use Rattle.copy_deltas.specs.Below.{RefusesMerge}
use Rattle.copy_requests.proofs.Imported.{merges, merges_without_memory, disagrees}
use Rattle.copy_requests.proofs.import.merge_copy.Goals as goal

pub returns-in-Ok : goal.returns-in-Ok
returns-in-Ok g c =
    merges c.args.here.now c.args.copy.now c.end.ensures.is_content c.end-2.ensures.is_content c.merge_into.new.a c.in-Ok.ensures.merges c.in-Ok.ensures.agrees

pub returns-in-Err-OutOfMemory : goal.returns-in-Err-OutOfMemory
returns-in-Err-OutOfMemory g c =
    merges_without_memory c.args.here.now c.args.copy.now c.end.ensures.is_content c.end-2.ensures.is_content c.merge_into.new.a
    (subst (RefusesMerge c.args.here.now c.args.copy.now) c.in-Err-OutOfMemory.field-0-is c.in-Err-OutOfMemory.ensures.refuses) c.in-Err-OutOfMemory.ensures.unchanged_on_error

pub returns-in-Err-Disagree : goal.returns-in-Err-Disagree
returns-in-Err-Disagree g c =
    disagrees c.args.here.now c.args.copy.now c.end.ensures.is_content c.end-2.ensures.is_content c.merge_into.new.a _
    (subst (RefusesMerge c.args.here.now c.args.copy.now) c.in-Err-Disagree.field-0-is c.in-Err-Disagree.ensures.refuses) c.in-Err-Disagree.ensures.unchanged_on_error
