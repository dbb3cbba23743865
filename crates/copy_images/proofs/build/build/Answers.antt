use Rattle.std.proofs.Common.{rules, ◌∙◌, sym, subst}
use Rattle.std.specs.Prelude.{ℤ, FitsSigned}
use Rattle.std.specs.Int.{w64, cast_signed, cast_unsigned}
use Rattle.std.proofs.lemmas.Int.{to_z-of_z}
use Rattle.partition_log.specs.Below.{content_of}
use Rattle.copy_images.specs.Judging.{ranges_of, AreJudged}
use Rattle.copy_images.proofs.Kept.{is_content, is_built}
use Rattle.copy_images.proofs.build.build.Goals as goal

pub from_store-requires : goal.from_store-requires
from_store-requires g c =
    let parts = c.args.parts.now in
    let fits : FitsSigned w64 parts.start = search rules in
    let judged = subst (λ (z : ℤ). AreJudged z (ranges_of parts.ranges.now) parts.count parts.batches.now) (sym (to_z-of_z w64 parts.start fits)) c.requires in
    is_content (cast_signed w64 (cast_unsigned w64 parts.start)) (ranges_of parts.ranges.now) c.in_ok-cover.cover.runs parts.count parts.batches.now (g.S.BatchStore.batches c.in_ok-batches.batches) judged c.in_ok-cover.ensures c.in_ok-batches.ensures

pub returns : goal.returns
returns g c =
    let parts = c.args.parts.now in
    let fits : FitsSigned w64 parts.start = search rules in
    let store = g.S.BatchStore.batches c.in_ok-batches.batches in
    let made = c.from_store.ensures ∙ (λ i. content_of (to_z-of_z w64 parts.start fits i) c.in_ok-cover.cover.runs store) in
    is_built parts.start (ranges_of parts.ranges.now) c.in_ok-cover.cover.runs parts.count parts.batches.now store c.from_store.result c.requires c.in_ok-cover.ensures c.in_ok-batches.ensures made
