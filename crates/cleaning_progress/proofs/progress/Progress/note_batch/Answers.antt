use Rattle.std.proofs.Common.{◌≡◌, ℤ, true, false, None, refl, sym, ap, subst, ◌∙◌, FitsSigned, rules, arith}
use Rattle.std.specs.Prelude.{◌≤ℤ◌, ◌<ℤ◌, int_lt}
use Rattle.std.specs.Int.{w64}
use Rattle.std.proofs.lemmas.Int.{ints, to_z-of_z}
use Rattle.content.specs.Content.{add}
use Rattle.cleaning_progress.specs.Progress.{Known, IsKnownOf, marks_below}
use Rattle.cleaning_progress.proofs.Known.{known_late, known_behind, known_parts}
use Rattle.cleaning_progress.proofs.progress.Progress.note_batch.Goals as goal

pub returns-then-are_above : goal.returns-then-are_above
returns-then-are_above g c = record {
  marks = c.below-self-inside.ensures ∙ ap (λ (o : ℤ). marks_below o c.self.inside.marks) (to_z-of_z w64 c.args.base c.ranges.base) ∙ ap (λ (k : Known). marks_below c.args.base k.marks) c.self.view_is;
  keeps_keys = λ le.
      let above : int_lt c.args.base c.self.inside.keys.to ≡ true = ap (λ (o : ℤ). int_lt o c.self.inside.keys.to) (sym (to_z-of_z w64 c.args.base c.ranges.base)) ∙ sym c.are_above.ensures ∙ c.if-are_above.true in
      let less : c.args.base <ℤ c.self.inside.keys.to = grind (arith, ints, above) in
      let to : c.self.inside.keys.to ≡ c.args.self.now.known_to = ap (λ (k : Known). k.known_to) c.self.view_is in
      absurd (omega (arith, ints, less, le, to));
  knows = λ content b is log which at known.
      let same = to_z-of_z w64 c.args.base c.ranges.base in
      let marks = c.below-self-inside.ensures ∙ ap (λ (o : ℤ). marks_below o c.self.inside.marks) same in
      let fits : FitsSigned w64 c.below-self-inside.result.settled = search rules in
      subst (λ keys. IsKnownOf (add content b) (record { marks = c.below-self-inside.result; known_to = keys.to; newest = keys.newest })) (sym c.forget.ensures)
      (known_parts (add content b) (marks_below c.args.base c.self.inside.marks) c.below-self-inside.result _ _ None marks (to_z-of_z w64 c.below-self-inside.result.settled fits ∙ ap (λ m. m.settled) marks)
      (known_late _ content b c.args.base is log which at (subst (IsKnownOf content) (sym c.self.view_is) known)));
}

pub returns-else-are_above : goal.returns-else-are_above
returns-else-are_above g c = record {
  marks = c.below-self-inside.ensures ∙ ap (λ (o : ℤ). marks_below o c.self.inside.marks) (to_z-of_z w64 c.args.base c.ranges.base) ∙ ap (λ (k : Known). marks_below c.args.base k.marks) c.self.view_is;
  keeps_keys = λ le. (ap (λ (k : Known). k.known_to) c.self.view_is, ap (λ (k : Known). k.newest) c.self.view_is);
  knows = λ content b is log which at known.
      let same = to_z-of_z w64 c.args.base c.ranges.base in
      let marks = c.below-self-inside.ensures ∙ ap (λ (o : ℤ). marks_below o c.self.inside.marks) same in
      let not : int_lt c.args.base c.self.inside.keys.to ≡ false = ap (λ (o : ℤ). int_lt o c.self.inside.keys.to) (sym same) ∙ sym c.are_above.ensures ∙ c.if-are_above.false in
      let less : c.self.inside.keys.to ≤ℤ c.args.base = grind (arith, ints, not) in
      known_parts (add content b) (marks_below c.args.base c.self.inside.marks) c.below-self-inside.result _ _ _ marks refl
      (known_behind _ content b c.args.base is log which at (subst (IsKnownOf content) (sym c.self.view_is) known) less);
}
