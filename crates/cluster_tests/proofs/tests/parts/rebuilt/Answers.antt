use Rattle.std.proofs.Common.{◌∙◌, FitsSigned, w64, rules}
use Rattle.std.proofs.lemmas.Int.{to_z-of_z}
use Rattle.cluster_tests.proofs.Contents.{is_content}
use Rattle.cluster_tests.proofs.tests.parts.rebuilt.Goals as goal

pub from_parts-requires : goal.from_parts-requires
from_parts-requires g c =
    let start : FitsSigned w64 c.start.result = search rules in
    is_content c.args.copy.now _ c.in_ok-try_clone.field-0.runs c.in_ok-batches.batches.items (to_z-of_z w64 c.start.result start ∙ c.start.ensures.start) (c.in_ok-try_clone.ensures ∙ c.cover.ensures) c.in_ok-batches.ensures
    c.know_content.ensures
