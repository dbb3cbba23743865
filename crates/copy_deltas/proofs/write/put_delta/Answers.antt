use Rattle.std.proofs.Common.{ℕ, ◌≤◌, length, ap, subst, ◌∙◌, rules}
use Rattle.std.specs.Prelude.{FitsSigned}
use Rattle.std.specs.Int.{w64}
use Rattle.copy_images.specs.declared.layout.TheConstants.{MAX_COUNT}
use Rattle.copy_images.proofs.Written.{on_ok}
use Rattle.copy_deltas.proofs.Parts.{delta_put}
use Rattle.copy_deltas.proofs.write.put_delta.Goals as goal

pub returns-clause-gives : goal.returns-clause-gives
returns-clause-gives g c =
    let start : FitsSigned w64 c.start.result = search rules in
    delta_put c.put_crc.result c.args.out.now.items c.put_head.new.out.items c.put_list_of_ranges.new.out.items c.put_list_of_ranges-2.new.out.items c.put_entries.new.out.items c.put_crc.new.out.items c.args.copy.now c.args.asked.now.runs
    c.start.result c.ranges-2.result.now c.ranges-3.result.now start c.requires c.start.ensures.start (c.ranges-2.ensures.lists_runs ∙ c.cover.ensures) c.ranges-3.ensures.lists_runs
    c.in_ok-put_head.ensures c.in_ok-put_list_of_ranges.ensures.appends c.in_ok-put_list_of_ranges-2.ensures.appends c.in_ok-put_entries.ensures.appends c.put_crc.ensures

pub returns-clause-ranges : goal.returns-clause-ranges
returns-clause-ranges g c = on_ok c.put_crc.result _ (subst (λ (n : ℕ). n ≤ MAX_COUNT) (ap length (c.ranges-2.ensures.lists_runs ∙ c.cover.ensures)) c.in_ok-put_list_of_ranges.ensures.counted)

pub returns-clause-asked : goal.returns-clause-asked
returns-clause-asked g c = on_ok c.put_crc.result _ (subst (λ (n : ℕ). n ≤ MAX_COUNT) (ap length c.ranges-3.ensures.lists_runs) c.in_ok-put_list_of_ranges-2.ensures.counted)

pub returns-clause-entries : goal.returns-clause-entries
returns-clause-entries g c = on_ok c.put_crc.result _ c.in_ok-put_entries.ensures.counted
