use Rattle.std.proofs.Common.{refl, rules, FitsSigned, to_z, of_z}
use Rattle.std.specs.Int.{w64}
use Rattle.std.proofs.lemmas.Int.{to_z-of_z}
use Rattle.side_by_side.proofs.Agreeing.{passed_on}
use Rattle.deltas.proofs.AskedRuns.{no_unknown}
use Rattle.copy_deltas.proofs.Known.{one_known, one_unknown, all_known, later_said}
use Rattle.copy_deltas.proofs.knowing.knows_all.Goals as goal

pub returns-then-not-has_all-clause-known : goal.returns-then-not-has_all-clause-known
returns-then-not-has_all-clause-known g c =
    let own_fits : FitsSigned w64 c.start.result = search rules in
    let first_fits : FitsSigned w64 c.range_at-first.result.0 = search rules in
    let later_fits : FitsSigned w64 c.max.result = search rules in
    let later_is = later_said c.args.copy.now.start c.range_at-first.result.0 _ _ c.max.result (passed_on c.start.result c.args.copy.now.start own_fits c.start.ensures.start) (to_z-of_z w64 c.range_at-first.result.0 first_fits) c.max.ensures.value in
    let last_fits : FitsSigned w64 c.range_at-first.result.1 = search rules in (
      λ never. absurd cc,
      λ known. absurd (no_unknown c.args.copy.now _ (one_unknown c.args.copy.now c.args.asked.now c.loop-bytes.bytes-index c.range_at-first.result (to_z w64 (of_z w64 c.max.result)) (to_z w64 (of_z w64 c.range_at-first.result.1)) c.cover.result.now.runs c.has_all.result
          c.know_content.ensures c.loop-bytes-test.true c.range_at-first.ensures (passed_on c.max.result _ later_fits later_is) (to_z-of_z w64 c.range_at-first.result.1 last_fits) c.cover.ensures c.has_all.ensures c.loop-bytes.invariant c.if-not-has_all.true) known),
    )

pub returns-then-not-has_all-clause-unknown : goal.returns-then-not-has_all-clause-unknown
returns-then-not-has_all-clause-unknown g c =
    let own_fits : FitsSigned w64 c.start.result = search rules in
    let first_fits : FitsSigned w64 c.range_at-first.result.0 = search rules in
    let later_fits : FitsSigned w64 c.max.result = search rules in
    let later_is = later_said c.args.copy.now.start c.range_at-first.result.0 _ _ c.max.result (passed_on c.start.result c.args.copy.now.start own_fits c.start.ensures.start) (to_z-of_z w64 c.range_at-first.result.0 first_fits) c.max.ensures.value in
    let last_fits : FitsSigned w64 c.range_at-first.result.1 = search rules in
    λ denied. one_unknown c.args.copy.now c.args.asked.now c.loop-bytes.bytes-index c.range_at-first.result (to_z w64 (of_z w64 c.max.result)) (to_z w64 (of_z w64 c.range_at-first.result.1)) c.cover.result.now.runs c.has_all.result
    c.know_content.ensures c.loop-bytes-test.true c.range_at-first.ensures (passed_on c.max.result _ later_fits later_is) (to_z-of_z w64 c.range_at-first.result.1 last_fits) c.cover.ensures c.has_all.ensures c.loop-bytes.invariant c.if-not-has_all.true

pub loop-bytes-preserved : goal.loop-bytes-preserved
loop-bytes-preserved g c =
    let own_fits : FitsSigned w64 c.start.result = search rules in
    let first_fits : FitsSigned w64 c.range_at-first.result.0 = search rules in
    let later_fits : FitsSigned w64 c.max.result = search rules in
    let later_is = later_said c.args.copy.now.start c.range_at-first.result.0 _ _ c.max.result (passed_on c.start.result c.args.copy.now.start own_fits c.start.ensures.start) (to_z-of_z w64 c.range_at-first.result.0 first_fits) c.max.ensures.value in
    let last_fits : FitsSigned w64 c.range_at-first.result.1 = search rules in
    one_known c.args.copy.now c.args.asked.now c.loop-bytes.bytes-index c.range_at-first.result (to_z w64 (of_z w64 c.max.result)) (to_z w64 (of_z w64 c.range_at-first.result.1)) c.cover.result.now.runs c.has_all.result
    c.know_content.ensures c.loop-bytes-test.true c.range_at-first.ensures (passed_on c.max.result _ later_fits later_is) (to_z-of_z w64 c.range_at-first.result.1 last_fits) c.cover.ensures c.has_all.ensures c.loop-bytes.invariant c.if-not-has_all.false

pub returns-clause-known : goal.returns-clause-known
returns-clause-known g c = (
  λ granted. all_known c.args.copy.now c.args.asked.now c.loop-bytes.bytes-index c.know_content.ensures c.loop-bytes-test.false c.loop-bytes.invariant,
  λ known. refl,
)

pub returns-clause-unknown : goal.returns-clause-unknown
returns-clause-unknown g c = λ denied. absurd cc
