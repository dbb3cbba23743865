-- A function that gives the state after each frame leads by its fold.
use Rattle.std.proofs.Common.{◌≡◌, List, refl, sym, ap, ◌∙◌}
use Rattle.std.specs.List.{fold}
use Rattle.std.proofs.lemmas.List.Sums.{fold-append}
use Rattle.rotation_laws.specs.Directories.{IsLeading}

pub steps_lead : {X F : Type 0} (step : X → F → X) → IsLeading (λ (s : X) (frames : List F) (after : X). after ≡ fold step s frames)
steps_lead step = record {
  empty = λ s. refl;
  joins = λ s mid after frames others first then. then ∙ ap (λ x. fold step x others) first ∙ sym (fold-append step s frames others);
  parts = λ s after frames others all. (fold step s frames, refl, all ∙ fold-append step s frames others);
  one_state = λ s after other frames first again. again ∙ sym first;
}
