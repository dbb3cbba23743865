use Rattle.std.proofs.Common.{ap, ◌∙◌}
use Rattle.cleaning_policy.specs.Policies.{Known, given_up}
use Rattle.cleaning_policy.proofs.Changing.{is_given_up}
use Rattle.cleaning_policy.proofs.policy.Policy.given_up.Goals as goal

pub returns-in-Some : goal.returns-in-Some
returns-in-Some g c =
    is_given_up c.args.now (record { settings = c.self.inside.settings; parts = c.self.inside.parts.items; pass = c.self.inside.pass; turn = c.self.inside.turn })
    c.in-Some.pass c.index_mut.result.now c.give_up.new.self c.self.invariant c.in-Some.is c.index_mut.ensures.value c.give_up.ensures
    ∙ ap (λ (v : Known). given_up c.args.now v v.pass) c.self.view_is
