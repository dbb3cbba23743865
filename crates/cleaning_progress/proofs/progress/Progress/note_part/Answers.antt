use Rattle.std.proofs.Common.{◌≡◌, ℤ, true, false, None, refl, sym, ap, subst, ◌∙◌, FitsSigned, rules, arith}
use Rattle.std.specs.Prelude.{◌≤ℤ◌, ◌<ℤ◌, int_lt}
use Rattle.std.specs.Int.{w64}
use Rattle.std.proofs.lemmas.Int.{ints, to_z-of_z}
use Rattle.content.specs.Parts.{clean_part}
use Rattle.cleaning_progress.specs.Progress.{Known, IsKnownOf, marks_after}
use Rattle.cleaning_progress.proofs.Known.{known_after, marks_behind, known_parts}
use Rattle.cleaning_progress.proofs.progress.Progress.note_part.Goals as goal

pub returns-then-fall_short : goal.returns-then-fall_short
returns-then-fall_short g c = record {
  marks = c.after-self-inside.ensures ∙ ap (λ (o : ℤ). marks_after c.args.part.now o c.args.is_clear c.self.inside.marks) (to_z-of_z w64 c.args.start c.ranges.start) ∙ ap (λ (k : Known). marks_after c.args.part.now c.args.start c.args.is_clear k.marks) c.self.view_is;
  keeps_keys = λ le.
      let short : int_lt c.self.inside.keys.to c.args.part.now.upto ≡ true = sym c.fall_short.ensures ∙ c.if-fall_short.true in
      let less : c.self.inside.keys.to <ℤ c.args.part.now.upto = grind (arith, ints, short) in
      let to : c.self.inside.keys.to ≡ c.args.self.now.known_to = ap (λ (k : Known). k.known_to) c.self.view_is in
      absurd (omega (arith, ints, less, le, to));
  knows = λ content is low none known.
      let same = to_z-of_z w64 c.args.start c.ranges.start in
      let marks = c.after-self-inside.ensures ∙ ap (λ (o : ℤ). marks_after c.args.part.now o c.args.is_clear c.self.inside.marks) same in
      let fits : FitsSigned w64 c.after-self-inside.result.settled = search rules in
      subst (λ keys. IsKnownOf (clean_part c.args.part.now content) (record { marks = c.after-self-inside.result; known_to = keys.to; newest = keys.newest })) (sym c.forget.ensures)
      (known_parts (clean_part c.args.part.now content) (marks_after c.args.part.now c.args.start c.args.is_clear c.self.inside.marks) c.after-self-inside.result _ _ None marks (to_z-of_z w64 c.after-self-inside.result.settled fits ∙ ap (λ m. m.settled) marks)
      (marks_behind c.args.part.now _ c.args.start c.args.is_clear content is low none (subst (IsKnownOf content) (sym c.self.view_is) known)));
}

pub returns-else-fall_short : goal.returns-else-fall_short
returns-else-fall_short g c = record {
  marks = c.after-self-inside.ensures ∙ ap (λ (o : ℤ). marks_after c.args.part.now o c.args.is_clear c.self.inside.marks) (to_z-of_z w64 c.args.start c.ranges.start) ∙ ap (λ (k : Known). marks_after c.args.part.now c.args.start c.args.is_clear k.marks) c.self.view_is;
  keeps_keys = λ le. (ap (λ (k : Known). k.known_to) c.self.view_is, ap (λ (k : Known). k.newest) c.self.view_is);
  knows = λ content is low none known.
      let same = to_z-of_z w64 c.args.start c.ranges.start in
      let marks = c.after-self-inside.ensures ∙ ap (λ (o : ℤ). marks_after c.args.part.now o c.args.is_clear c.self.inside.marks) same in
      let not : int_lt c.self.inside.keys.to c.args.part.now.upto ≡ false = sym c.fall_short.ensures ∙ c.if-fall_short.false in
      let less : c.args.part.now.upto ≤ℤ c.self.inside.keys.to = grind (arith, ints, not) in
      known_parts (clean_part c.args.part.now content) (marks_after c.args.part.now c.args.start c.args.is_clear c.self.inside.marks) c.after-self-inside.result _ _ _ marks refl
      (known_after c.args.part.now _ c.args.start c.args.is_clear content is low none (subst (IsKnownOf content) (sym c.self.view_is) known) less);
}
