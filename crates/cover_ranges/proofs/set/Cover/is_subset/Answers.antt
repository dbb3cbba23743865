use Rattle.std.proofs.Common.{◌∙◌, ap}
use Rattle.cover_ranges.specs.CoverValue.{CoverValue}
use Rattle.cover_ranges.proofs.Runs.{subset_same}
use Rattle.cover_ranges.proofs.set.Cover.is_subset.Goals as goal

pub returns : goal.returns
returns g c =
    subset_same c.deref.result.now c.deref-2.result.now c.args.self.now.runs c.args.other.now.runs c.is_subset.result
    (c.deref.ensures.value ∙ ap (λ (h : CoverValue). h.runs) c.self.view_is) (c.deref-2.ensures.value ∙ ap (λ (h : CoverValue). h.runs) c.other.view_is) c.is_subset.ensures
