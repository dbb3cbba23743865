use Rattle.std.proofs.Common.{◌∙◌, FitsSigned, w64, rules}
use Rattle.std.proofs.lemmas.Int.{to_z-of_z}
use Rattle.cluster_tests.proofs.Contents.{is_content}
use Rattle.cluster_tests.proofs.tests.lists_memory.cleans_batches.Goals as goal

pub clean_list-requires : goal.clean_list-requires
clean_list-requires g c =
    let start : FitsSigned w64 c.start.result = search rules in
    is_content c.args.copy.now _ c.cover.result.now.runs c.deref.result.now (to_z-of_z w64 c.start.result start ∙ c.start.ensures.start) c.cover.ensures (c.deref.ensures.value ∙ c.in_ok-batches.ensures)
    c.know_content.ensures
