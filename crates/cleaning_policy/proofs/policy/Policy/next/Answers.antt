use Rattle.std.proofs.Common.{◌≡◌, ap, sym, subst, ◌∙◌, rules}
use Rattle.std.specs.Prelude.{Option, Some, IfSome}
use Rattle.cleaning_policy.specs.declared.values.Pass.{Pass}
use Rattle.cleaning_policy.specs.Policies.{Known, next_pass, behind_pass}
use Rattle.cleaning_policy.specs.Histories.{IsBounded, history}
use Rattle.cleaning_policy.proofs.Changing.{is_begun}
use Rattle.cleaning_policy.proofs.Bounding.{bounded_of}
use Rattle.cleaning_policy.proofs.policy.Policy.next.Goals as goal

pub returns-clause-goes_on : goal.returns-clause-goes_on
returns-clause-goes_on g c =
    is_begun c.args.now (record { settings = c.self.inside.settings; parts = c.self.inside.parts.items; pass = c.self.inside.pass; turn = c.self.inside.turn })
    c.next_pass.result c.in_ok-pass.pass c.index_mut.result.now c.begin.new.self c.in_ok-pass.was (search rules) c.index_mut.ensures.value c.begin.ensures
    ∙ (ap (λ (v : Known). behind_pass c.args.now v c.next_pass.result) c.self.view_is ∙ ap (behind_pass c.args.now c.args.self.now) c.next_pass.ensures.is_next)

pub returns-clause-bounded : goal.returns-clause-bounded
returns-clause-bounded g c = λ calls is.
    let given : next_pass c.args.now c.args.self.now c.args.self.now.pass ≡ Some c.in_ok-pass.pass = sym c.next_pass.ensures.is_next ∙ c.in_ok-pass.was in
    subst (λ (r : Option Pass). IfSome r (λ q. IsBounded c.args.self.now.settings (history c.args.self.now.settings calls) c.args.now q.frame)) given
    (bounded_of c.args.now c.args.self.now calls is)
