use Rattle.std.proofs.Common.{ℤ, None, refl, sym, subst, ap, ◌∙◌, rules, FitsSigned}
use Rattle.std.specs.Prelude.{◌≤ℤ◌}
use Rattle.std.specs.Int.{w64}
use Rattle.std.proofs.lemmas.Int.{to_z-of_z}
use Rattle.segment.proofs.Outcomes.{if_err}
use Rattle.cleaning_progress.specs.Progress.{Known, IsKnownOf, newest_of}
use Rattle.cleaning_progress.specs.Extending.{TakesDirty}
use Rattle.cleaning_progress.proofs.Known.{without_keys, known_parts}
use Rattle.cleaning_progress.proofs.Tellings.{known_more}
use Rattle.cleaning_progress.proofs.progress.Progress.extend.Goals as goal

pub returns-in_err-keys : goal.returns-in_err-keys
returns-in_err-keys g c = record {
  marks = ap (λ (k : Known). k.marks) c.self.view_is;
  reaches = if_err c.from_residual.result _ c.from_residual.ensures.0;
  knows = λ content is kept known.
      let fits : FitsSigned w64 c.self.inside.marks.settled = search rules in
      subst (λ keys. IsKnownOf content (record { marks = c.self.inside.marks; known_to = keys.to; newest = keys.newest })) (sym (c.replace-before.ensures.after ∙ c.none.ensures))
      (known_parts content c.self.inside.marks c.self.inside.marks c.self.inside.marks.settled _ None refl (to_z-of_z w64 c.self.inside.marks.settled fits) (without_keys content _ is (subst (IsKnownOf content) (sym c.self.view_is) known)));
}

pub returns : goal.returns
returns g c = record {
  marks = ap (λ (k : Known). k.marks) c.self.view_is;
  reaches = λ room. subst (λ keys. c.args.upto ≤ℤ keys.to) (sym c.set.ensures) (subst (λ (u : ℤ). u ≤ℤ c.in_ok-keys.keys.to) (to_z-of_z w64 c.args.upto c.ranges.upto) (c.in_ok-keys.ensures.reaches room));
  knows = λ content is kept known.
      subst (λ keys. IsKnownOf content (record { marks = c.self.inside.marks; known_to = keys.to; newest = keys.newest })) (sym c.set.ensures)
      (known_more content _ c.in_ok-keys.keys.to c.in_ok-keys.keys.newest _ is kept
      (subst (λ k. TakesDirty k.to c.in_ok-keys.keys.to (newest_of k.newest) (newest_of c.in_ok-keys.keys.newest) (g.S.BatchStore.batches c.args.batches.now)) c.replace-before.ensures.value c.in_ok-keys.ensures.takes)
      (subst (IsKnownOf content) (sym c.self.view_is) known));
}
