use Rattle.std.proofs.Common.{[], List, ℕ, get_or, ap, sym, ◌∙◌}
use Rattle.count_list.proofs.Running.{count_in}
use Rattle.count_list.proofs.list.CountList.get.Goals as goal

pub returns : goal.returns
returns g c = record {
  is_there =
      ap (λ (xs : List ℕ). get_or xs c.locate-place.result.index 0) (c.counts.ensures.counts [])
      ∙ sym (count_in c.self.inside.blocks c.locate-place.result.block c.locate-place.result.index c.args.i 0 c.locate-place.ensures) ∙ ap (λ (xs : List ℕ). get_or xs c.args.i 0) c.self.view_is;
}
