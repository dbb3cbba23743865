use Rattle.std.proofs.Common.{◌∙◌, ap, refl, sym}
use Rattle.std.specs.Prelude.{is_some}
use Rattle.std.specs.Option.{option_map}
use Rattle.std.specs.List.{find}
use Rattle.group_coordinator.specs.Coordinators.{Groups, is_for, reply_in}
use Rattle.group_coordinator.proofs.Readiness.{refusal_ready, reply_ready}
use Rattle.group_coordinator.proofs.coordinator.Coordinator.ready.Goals as goal

pub returns-in-Some : goal.returns-in-Some
returns-in-Some g c =
    let given = refusal_ready c.args.session c.args.self.now c.in-Some.error
    (sym c.in-Some.is ∙ c.refusal_for.ensures ∙ ap (λ (v : Groups). option_map (λ r. r.error) (find (is_for c.args.session) v.refused)) c.self.view_is) in
    record { gives = given; if_any = ap is_some given }

pub returns-in-None : goal.returns-in-None
returns-in-None g c =
    let none = sym c.in-None.is ∙ c.refusal_for.ensures ∙ ap (λ (v : Groups). option_map (λ r. r.error) (find (is_for c.args.session) v.refused)) c.self.view_is in
    record {
      gives = reply_ready c.args.session c.args.self.now _ none (c.ready.ensures.gives c.args.self.now (ap (λ (v : Groups). v.groups) (sym c.self.view_is)));
      if_any = c.ready.ensures.if_any ∙ ap (λ (v : Groups). is_some (reply_in c.args.session v.groups)) c.self.view_is ∙ ap is_some (reply_ready c.args.session c.args.self.now _ none refl);
    }
