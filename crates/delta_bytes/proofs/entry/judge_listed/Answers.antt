use Rattle.std.proofs.Common.{subst, rules, arith, ◌∙◌, ◌≡◌, ◌+◌, ◌*◌, length}
use Rattle.std.specs.Prelude.{ℤ, FitsSigned}
use Rattle.std.specs.Int.{w64}
use Rattle.std.proofs.lemmas.Int.{to_z-of_z}
use Rattle.std.proofs.lemmas.List.{length-map}
use Rattle.copy_images.specs.Judging.{ranges_of}
use Rattle.delta_bytes.specs.Judging.{offset_at, offsets_of, IsNextList}
use Rattle.delta_bytes.proofs.NextEntry.{listed_accepted, listed_unseen}
use Rattle.delta_bytes.proofs.entry.judge_listed.Goals as goal

pub returns-then-not-is_seen-clause-refuses : goal.returns-then-not-is_seen-clause-refuses
returns-then-not-is_seen-clause-refuses c asked =
    let list = c.in-Some.list in
    listed_unseen (ranges_of c.args.ranges.now) asked c.args.low list.base (offsets_of list.offsets.now) c.args.bytes.now c.is_seen.result (subst (λ (z : ℤ). IsNextList z list.base (offsets_of list.offsets.now) c.args.bytes.now) (to_z-of_z w64 c.args.low c.ranges.low) c.in-Some.ensures.0) c.is_seen.ensures c.if-not-is_seen.true

pub returns-clause-accepts : goal.returns-clause-accepts
returns-clause-accepts c asked =
    let list = c.in-Some.list in
    let fits : FitsSigned w64 c.in-Some.last = search rules in
    let size : 13 + 8 * length list.offsets.now ≡ 13 + 8 * length (offsets_of list.offsets.now) = omega (arith, length-map list.offsets.now offset_at) in
    listed_accepted (ranges_of c.args.ranges.now) asked c.args.low list.base (offsets_of list.offsets.now) c.args.bytes.now _ _ (subst (λ (z : ℤ). IsNextList z list.base (offsets_of list.offsets.now) c.args.bytes.now) (to_z-of_z w64 c.args.low c.ranges.low) c.in-Some.ensures.0) (to_z-of_z w64 c.in-Some.last fits ∙ c.in-Some.ensures.1) (c.is_seen.ensures.0 c.if-not-is_seen.false) size
