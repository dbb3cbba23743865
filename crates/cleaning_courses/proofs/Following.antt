-- A frame of a policy is a cleaning that may follow.
use Rattle.std.proofs.Common.{◌≡◌, ◌⊎◌, ℕ, ◌+◌, ◌≤◌, List, sym, subst, inl, inr, arith}
use Rattle.std.specs.Prelude.{ℤ, pos, ◌≤ℤ◌}
use Rattle.std.proofs.lemmas.Int.{ints}
use Rattle.content.specs.declared.part.CleaningPart.{CleaningPart}
use Rattle.content.specs.Content.{Content, end}
use Rattle.cleaning_policy.specs.declared.values.Frame.{Frame}
use Rattle.cleaning_policy.specs.declared.values.Settings.{Settings}
use Rattle.cleaning_policy.specs.Histories as policy
use Rattle.cleaning_policy.specs.Histories.{Event, IsBounded}
use Rattle.cleaning_courses.specs.Places.{IsBetweenBatches}
use Rattle.cleaning_courses.specs.Steps.{Step, content_after, MayTakeDeletions, HasWholeEnds, MayFollow, IsCourse}
use Rattle.cleaning_courses.specs.Steps.Step.{Clean}
use Rattle.cleaning_courses.specs.Frames.{HasEnded, IsToldOf}
use Rattle.cleaning_courses.proofs.Between.{end_stays_between}

pub was_end_between : (keep : ℕ) (c : Content) (steps : List Step) (o : ℤ) → IsCourse keep c steps → HasEnded c steps o → IsBetweenBatches (content_after c steps) o
was_end_between keep c steps o course was =
    subst (IsBetweenBatches (content_after c steps)) was.ended
    (subst (λ (s : List Step). IsBetweenBatches (content_after c s) (end (content_after c was.before))) (sym was.are)
    (end_stays_between keep c was.since was.before (subst (IsCourse keep c) was.are course)))

same_offset : (a b : ℤ) → a ≡ b → a ≤ℤ b
same_offset a b e = omega (arith, ints, e)

module _ (keep : ℕ) (h : List Event) (now t i : ℕ) (c : Content) (steps : List Step) (soon : now ≤ t) (told : IsToldOf h i c steps) where
  may_take : (d : ℤ) → (d ≡ pos 0) ⊎ ((s : ℕ) × policy.WasCleaned h i s d × (s + keep ≤ now)) → MayTakeDeletions keep c steps t d
  may_take d (inl none) = inl (same_offset d (pos 0) none)
  may_take d (inr w) =
      let pass = w.1 in
      let was = told.passes w.0 pass.frame pass.of_it pass.over in
      inr (w.0, pass.frame.upto, was, same_offset d pass.frame.upto (sym pass.as_far), omega (arith, w.2, soon))

pub frame_may_follow : (o : Settings) (h : List Event) (now t : ℕ) (f : Frame) (p : CleaningPart) (c : Content) (steps : List Step) → IsBounded o h now f → now ≤ t → IsCourse o.keep_deletes c steps → IsToldOf h f.partition c steps
    → p.upto ≡ f.upto → p.tomb_before ≡ f.tomb_before → HasWholeEnds (content_after c steps) p → MayFollow o.keep_deletes c steps (Clean t p)
frame_may_follow o h now t f p c steps bounded soon course told upto tomb_before ends = (
  subst (IsBetweenBatches (content_after c steps)) (sym upto) (was_end_between o.keep_deletes c steps f.upto course (subst (HasEnded c steps) bounded.was_end.is_end (told.ends bounded.end_time bounded.was_end.extent bounded.was_end.told))),
  ends,
  subst (MayTakeDeletions o.keep_deletes c steps t) (sym tomb_before) (may_take o.keep_deletes h now t f.partition c steps soon told f.tomb_before bounded.deletions),
)
