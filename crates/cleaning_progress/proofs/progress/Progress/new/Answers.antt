use Rattle.std.proofs.Common.{None, sym, ap, subst, ◌∙◌}
use Rattle.std.specs.Int.{w64}
use Rattle.std.proofs.lemmas.Int.{to_z-of_z}
use Rattle.cleaning_progress.specs.Progress.{IsKnownOf, first_marks}
use Rattle.cleaning_progress.proofs.Known.{known_at_first, known_parts}
use Rattle.cleaning_progress.proofs.progress.Progress.new.Goals as goal

pub returns : goal.returns
returns g c = record {
  begins = (let same = to_z-of_z w64 c.args.start c.ranges.start in (
      λ i. record { marks = (c.new.ensures ∙ ap first_marks same) i; known_to = (ap (λ k. k.to) c.none.ensures ∙ same) i; newest = ap (λ k. k.newest) c.none.ensures i }));
  knows = λ content is low.
      let same = to_z-of_z w64 c.args.start c.ranges.start in
      subst (λ keys. IsKnownOf content (record { marks = c.new.result; known_to = keys.to; newest = keys.newest })) (sym c.none.ensures)
      (known_parts content (first_marks c.args.start) c.new.result c.args.start _ None (c.new.ensures ∙ ap first_marks same) same (known_at_first c.args.start content is low));
}
