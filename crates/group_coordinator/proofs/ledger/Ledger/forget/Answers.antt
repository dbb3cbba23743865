use Rattle.std.proofs.Common.{◌∙◌, ap, not, rules}
use Rattle.std.specs.List.{filter}
use Rattle.std.proofs.lemmas.Fn.{filter_same}
use Rattle.group_coordinator.specs.Coordinators.{is_for}
use Rattle.group_coordinator.specs.Doing.{Noted}
use Rattle.group_coordinator.proofs.ledger.Ledger.forget.Goals as goal

pub returns : goal.returns
returns g c =
    (λ i. record {
      generations = c.self.inside.generations;
      refusals = filter_same _ (λ r. not (is_for c.args.session r)) _ (λ x b f' k. search rules) _ _ c.retain.ensures.filtered i;
      capacity = c.retain.ensures.capacity i;
    })
    ∙ ap (λ (n : Noted). record n { refusals = filter (λ r. not (is_for c.args.session r)) n.refusals }) c.self.view_is
