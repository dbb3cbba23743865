use Rattle.std.proofs.Common.{ap, ◌∙◌}
use Rattle.cleaning_policy.specs.Policies.{Known, cleaned}
use Rattle.cleaning_policy.proofs.Changing.{is_cleaned}
use Rattle.cleaning_policy.proofs.policy.Policy.cleaned.Goals as goal

pub returns-in-Some : goal.returns-in-Some
returns-in-Some g c =
    is_cleaned c.args.now c.args.bytes (record { settings = c.self.inside.settings; parts = c.self.inside.parts.items; pass = c.self.inside.pass; turn = c.self.inside.turn })
    c.in-Some.pass c.index_mut.result.now c.end.new.self c.self.invariant c.in-Some.is c.index_mut.ensures.value c.end.ensures
    ∙ ap (λ (v : Known). cleaned c.args.now c.args.bytes v v.pass) c.self.view_is
