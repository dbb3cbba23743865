use Rattle.std.proofs.Common.{None, refl, sym, ap, subst, ◌∙◌, FitsSigned, rules}
use Rattle.std.specs.Int.{w64}
use Rattle.std.proofs.lemmas.Int.{to_z-of_z}
use Rattle.cleaning_progress.specs.Progress.{IsKnownOf, without_keys as forgotten}
use Rattle.cleaning_progress.proofs.Known.{without_keys, known_parts}
use Rattle.cleaning_progress.proofs.progress.Progress.forget_keys.Goals as goal

pub returns : goal.returns
returns g c = record {
  forgets = (let fits : FitsSigned w64 c.self.inside.marks.settled = search rules in
      (λ i. record { marks = c.self.inside.marks; known_to = (ap (λ k. k.to) c.forget.ensures ∙ to_z-of_z w64 c.self.inside.marks.settled fits) i; newest = ap (λ k. k.newest) c.forget.ensures i }) ∙ ap forgotten c.self.view_is);
  knows = λ content is known.
      let fits : FitsSigned w64 c.self.inside.marks.settled = search rules in
      subst (λ keys. IsKnownOf content (record { marks = c.self.inside.marks; known_to = keys.to; newest = keys.newest })) (sym c.forget.ensures)
      (known_parts content c.self.inside.marks c.self.inside.marks c.self.inside.marks.settled _ None refl (to_z-of_z w64 c.self.inside.marks.settled fits) (without_keys content _ is (subst (IsKnownOf content) (sym c.self.view_is) known)));
}
