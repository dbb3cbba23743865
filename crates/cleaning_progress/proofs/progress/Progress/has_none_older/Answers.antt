use Rattle.std.proofs.Common.{sym, ap, subst, ◌∙◌}
use Rattle.cleaning_progress.specs.Progress.{Known, IsKnownOf, are_swept}
use Rattle.cleaning_progress.proofs.Known.{none_older}
use Rattle.cleaning_progress.proofs.progress.Progress.has_none_older.Goals as goal

pub returns : goal.returns
returns g c = record {
  tells = c.are_swept.ensures ∙ ap (λ (k : Known). are_swept c.args.part.now k.marks) c.self.view_is;
  knows = λ yes content is known. none_older c.args.part.now _ content (sym c.are_swept.ensures ∙ yes) is (subst (IsKnownOf content) (sym c.self.view_is) known);
}
