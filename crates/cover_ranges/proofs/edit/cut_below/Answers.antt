use Rattle.std.proofs.Common.{w64, to_z, of_z, rules, ◌≡◌, ◌∙◌}
use Rattle.std.specs.Int.{int_max}
use Rattle.std.proofs.lemmas.Int.{to_z-of_z}
use mir.Val.{SFits}
use Rattle.cover_ranges.specs.Index.{IsIndexOf}
use Rattle.cover_ranges.proofs.Cutting.{cut_some, cut_all}
use Rattle.cover_ranges.proofs.edit.cut_below.Goals as goal

pub returns-then-not-is_empty-clause-items : goal.returns-then-not-is_empty-clause-items
returns-then-not-is_empty-clause-items g c =
    let fits : SFits w64 c.args.start = c.ranges.start in
    let fits_first : SFits w64 c.index.result.now.0 = search rules in
    let fits_max : SFits w64 c.max.result = search rules in
    let index : IsIndexOf c.args.start c.deref.result.now c.index_of-at.result = simp to_z-of_z at c.index_of-at.ensures in
    let start : to_z w64 (of_z w64 c.max.result) ≡ int_max c.args.start c.index.result.now.0 = to_z-of_z w64 c.max.result fits_max ∙ c.max.ensures.value
    ∙ (λ i. int_max (to_z-of_z w64 c.args.start fits i) (to_z-of_z w64 c.index.result.now.0 fits_first i)) in
    cut_some c.args.start _ c.args.ranges.now.items c.deref.result.now c.remove_between.new.ranges.items c.index_of-at.result c.index.result.now c.index_mut.result.now
    c.deref.ensures.value c.requires index c.remove_between.ensures.items (search rules) c.index.ensures c.index_mut.ensures.value start

pub returns-else-not-is_empty-clause-items : goal.returns-else-not-is_empty-clause-items
returns-else-not-is_empty-clause-items g c =
    let fits : SFits w64 c.args.start = c.ranges.start in
    let index : IsIndexOf c.args.start c.deref.result.now c.index_of-at.result = simp to_z-of_z at c.index_of-at.ensures in
    cut_all c.args.start c.args.ranges.now.items c.deref.result.now c.remove_between.new.ranges.items c.index_of-at.result c.deref.ensures.value c.requires index c.remove_between.ensures.items (search rules)
