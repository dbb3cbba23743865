use Rattle.std.proofs.Common.{subst}
use Rattle.std.specs.Prelude.{ℤ, ◌↔◌, IsTrue, ◌≤ℤ◌}
use Rattle.std.specs.Int.{w64}
use Rattle.std.proofs.lemmas.Int.{to_z-of_z}
use Rattle.batch_codec.specs.Offsets.{first_offset, HasKeys}
use Rattle.content.specs.Content.{IsInRange}
use Rattle.copy_images.proofs.Judged.{not_next}
use Rattle.copy_images.proofs.batches.next_batch_feeding.Goals as goal

pub returns-in_default-clause-next : goal.returns-in_default-clause-next
returns-in_default-clause-next c b next = c.in_default.ensures.accepts_every_encoding b next.starts

pub returns-then-not-may_follow-clause-next : goal.returns-then-not-may_follow-clause-next
returns-then-not-may_follow-clause-next c =
    let batch = c.in-Ok.batch in
    not_next c.args.from c.args.bytes.now batch c.may_follow.result c.in-Ok.ensures.accepts_every_encoding
    (subst (λ (z : ℤ). IsTrue c.may_follow.result ↔ (HasKeys batch × IsInRange batch × (z ≤ℤ first_offset batch))) (to_z-of_z w64 c.args.from c.ranges.from) c.may_follow.ensures) c.if-not-may_follow.true
