-- Behind a policy's calls a partition has a course, as long as it is cleaned by the policy's frames alone.
use Rattle.std.proofs.Common.{◌≡◌, ◌⊎◌, ℕ, ◌≤◌, List, [], ◌∷◌, ◌++◌, Option, Some, None, IfSome, refl, sym, ap, subst, inl, inr, arith}
use Rattle.std.specs.Prelude.{ℤ, min}
use Rattle.std.specs.List.{Contains}
use Rattle.std.proofs.lemmas.List.Elements.{Contains-append_right, Contains-append_cases}
use Rattle.content.specs.declared.part.CleaningPart.{CleaningPart}
use Rattle.content.specs.Content.{Content}
use Rattle.cleaning_policy.specs.declared.values.Extent.{Extent}
use Rattle.cleaning_policy.specs.declared.values.Frame.{Frame}
use Rattle.cleaning_policy.specs.declared.values.Pass.{Pass}
use Rattle.cleaning_policy.specs.declared.values.Settings.{Settings}
use Rattle.cleaning_policy.specs.Policies.{next_pass}
use Rattle.cleaning_policy.specs.Histories.{Call, Event, behind, said, history, IsBounded}
use Rattle.cleaning_policy.specs.Histories.Call.{Next}
use Rattle.cleaning_policy.specs.Histories.Event.{Told, Over}
use Rattle.cleaning_policy.specs.Readers.{IsAmong}
use Rattle.cleaning_courses.specs.Steps.{Step, time_of, content_after, WasOver, MayTakeDeletions, HasWholeEnds, MayFollow, IsCourse}
use Rattle.cleaning_courses.specs.Steps.Step.{Produce, Clean, ForeignClean, Fetch, Trim}
use Rattle.cleaning_courses.specs.Frames.{HasEnded, IsToldOf}
use Rattle.cleaning_courses.specs.Timelines.{Moment, calls_of, steps_of, WasGiven, MayHappen, IsTimeline}
use Rattle.cleaning_courses.specs.Timelines.Moment.{Said, Happened}
use Rattle.cleaning_courses.proofs.Lists.{among-right}
use Rattle.cleaning_courses.proofs.Following.{frame_may_follow}

-- ---- what was told stays so

end_later : (c : Content) (steps : List Step) (a : Step) (o : ℤ) → HasEnded c steps o → HasEnded c (a ∷ steps) o
end_later c steps a o was = record { since = a ∷ was.since; before = was.before; are = ap (λ (s : List Step). a ∷ s) was.are; ended = was.ended }

pub over_later : (c : Content) (steps : List Step) (a : Step) (t : ℕ) (upto : ℤ) → WasOver c steps t upto → WasOver c (a ∷ steps) t upto
over_later c steps a t upto was = record { since = a ∷ was.since; before = was.before; are = ap (λ (s : List Step). a ∷ s) was.are; over = was.over; by_then = was.by_then }

told_later : (h : List Event) (i : ℕ) (c : Content) (steps : List Step) (a : Step) → IsToldOf h i c steps → IsToldOf h i c (a ∷ steps)
told_later h i c steps a told = record {
  ends = λ t x has. end_later c steps a x.end (told.ends t x has);
  passes = λ t f own has. over_later c steps a t f.upto (told.passes t f own has);
}

pub told_more : (new h : List Event) (i : ℕ) (c : Content) (steps : List Step) → IsToldOf new i c steps → IsToldOf h i c steps → IsToldOf (new ++ h) i c steps
told_more new h i c steps told old = record {
  ends = λ t x has. ends t x (Contains-append_cases new h (Told t i x) has);
  passes = λ t f own has. passes t f own (Contains-append_cases new h (Over t f) has);
}
  where
    ends : (t : ℕ) (x : Extent) → Contains new (Told t i x) ⊎ Contains h (Told t i x) → HasEnded c steps x.end
    ends t x (inl has) = told.ends t x has
    ends t x (inr has) = old.ends t x has

    passes : (t : ℕ) (f : Frame) → f.partition ≡ i → Contains new (Over t f) ⊎ Contains h (Over t f) → WasOver c steps t f.upto
    passes t f own (inl has) = told.passes t f own has
    passes t f own (inr has) = old.passes t f own has

told_less : (new h : List Event) (i : ℕ) (c : Content) (steps : List Step) → IsToldOf (new ++ h) i c steps → IsToldOf h i c steps
told_less new h i c steps told = record {
  ends = λ t x has. told.ends t x (Contains-append_right new h (Told t i x) has);
  passes = λ t f own has. told.passes t f own (Contains-append_right new h (Over t f) has);
}

pub told_nothing : (i : ℕ) (c : Content) (steps : List Step) → IsToldOf [] i c steps
told_nothing i c steps = record { ends = λ t x has. absurd (omega (arith, has.1)); passes = λ t f own has. absurd (omega (arith, has.1)) }

told_of : (o : Settings) (i : ℕ) (c : Content) (earlier : List Step) (moments : List Moment) → IsTimeline o i c earlier moments → IsToldOf (history o (calls_of moments)) i c (steps_of earlier moments)
told_of o i c earlier [] line = told_nothing i c earlier
told_of o i c earlier (Said call ∷ before) line =
    told_more (said call (behind o (calls_of before))) (history o (calls_of before)) i c (steps_of earlier before) line.0 (told_of o i c earlier before line.1)
told_of o i c earlier (Happened a ∷ before) line = told_later (history o (calls_of before)) i c (steps_of earlier before) a (told_of o i c earlier before line.2)

-- of the calls before a frame was given, too
told_before : (o : Settings) (i : ℕ) (c : Content) (steps : List Step) (since before : List Call) (call : Call) → IsToldOf (history o (since ++ call ∷ before)) i c steps → IsToldOf (history o before) i c steps
told_before o i c steps [] before call told = told_less (said call (behind o before)) (history o before) i c steps told
told_before o i c steps (first ∷ since) before call told =
    told_before o i c steps since before call (told_less (said first (behind o (since ++ call ∷ before))) (history o (since ++ call ∷ before)) i c steps told)

-- ---- times that are clipped

abbrev pub ByThen : ℕ → List Step → Type 0
ByThen now steps = (a : Step) → IsAmong a steps → time_of a ≤ now

pub clipped : (c : Content) (steps : List Step) (t now : ℕ) (upto : ℤ) → ByThen now steps → WasOver c steps t upto → WasOver c steps (min t now) upto
clipped c steps t now upto times was = record {
  since = was.since;
  before = was.before;
  are = was.are;
  over = was.over;
  by_then = λ a i. (let then : time_of a ≤ t = was.by_then a i in let soon : time_of a ≤ now = times a (subst (IsAmong a) (sym was.are) (among-right a was.since was.before i)) in omega (arith, then, soon));
}

-- ---- a frame

-- the law on frames
abbrev pub FramesAreBounded : Type 0
FramesAreBounded = (o : Settings) (calls : List Call) (now : ℕ) → IfSome (next_pass now (behind o calls) (behind o calls).pass) (λ q. IsBounded o (history o calls) now q.frame)

at_some : (z : Option Pass) (q : Pass) (P : Pass → Type 0) → IfSome z P → z ≡ Some q → P q
at_some None q P holds e = absurd cc
at_some (Some x) q P holds e = let same : x ≡ q = cc in subst P same holds

module _ (law : FramesAreBounded) (o : Settings) (i : ℕ) (c : Content) where
  given_may_follow : (calls : List Call) (steps : List Step) (t : ℕ) (f : Frame) (p : CleaningPart) → f.partition ≡ i → IsCourse o.keep_deletes c steps → IsToldOf (history o calls) i c steps → WasGiven o calls t f
      → p.upto ≡ f.upto → p.tomb_before ≡ f.tomb_before → HasWholeEnds (content_after c steps) p → MayFollow o.keep_deletes c steps (Clean t p)
  given_may_follow calls steps t f p own course told was upto tomb_before ends =
      frame_may_follow o (history o was.before) was.now t f p c steps
      (subst (λ (g : Frame). IsBounded o (history o was.before) was.now g) was.is
      (at_some (next_pass was.now (behind o was.before) (behind o was.before).pass) was.pass (λ q. IsBounded o (history o was.before) was.now q.frame) (law o was.before was.now) was.gave))
      was.by_then course
      (subst (λ (j : ℕ). IsToldOf (history o was.before) j c steps) (sym own)
      (told_before o i c steps was.since was.before (Next was.now) (subst (λ (l : List Call). IsToldOf (history o l) i c steps) was.are told)))
      upto tomb_before ends

  may_follow : (calls : List Call) (steps : List Step) (a : Step) → IsCourse o.keep_deletes c steps → IsToldOf (history o calls) i c steps → MayHappen o i c calls steps a → MayFollow o.keep_deletes c steps a
  may_follow calls steps (Produce t b) course told may = may
  may_follow calls steps (Clean t p) course told may = given_may_follow calls steps t (record { partition = i; upto = p.upto; tomb_before = p.tomb_before }) p refl course told may.0 refl refl may.1
  may_follow calls steps (ForeignClean t p) course told may = may
  may_follow calls steps (Fetch t x) course told may = may
  may_follow calls steps (Trim t s) course told may = may

  pub course_of : (earlier : List Step) (moments : List Moment) → IsTimeline o i c earlier moments → IsCourse o.keep_deletes c (steps_of earlier moments)
  course_of earlier [] line = line
  course_of earlier (Said call ∷ before) line = course_of earlier before line.1
  course_of earlier (Happened a ∷ before) line =
      let course = course_of earlier before line.2 in
      (may_follow (calls_of before) (steps_of earlier before) a course (told_of o i c earlier before line.2) line.0, line.1, course)

-- ---- deletions that are kept longer

module _ (keep longer : ℕ) (less : keep ≤ longer) (c : Content) where
  takes_sooner : (before : List Step) (t : ℕ) (d : ℤ) → MayTakeDeletions longer c before t d → MayTakeDeletions keep c before t d
  takes_sooner before t d (inl none) = inl none
  takes_sooner before t d (inr m) = inr (m.0, m.1, m.2, m.3, omega (arith, less, m.4))

  follows_sooner : (before : List Step) (a : Step) → MayFollow longer c before a → MayFollow keep c before a
  follows_sooner before (Produce t b) may = may
  follows_sooner before (Clean t p) may = (may.0, may.1, takes_sooner before t p.tomb_before may.2)
  follows_sooner before (ForeignClean t p) may = may
  follows_sooner before (Fetch t x) may = may
  follows_sooner before (Trim t s) may = may

  pub keeps_shorter : (steps : List Step) → IsCourse longer c steps → IsCourse keep c steps
  keeps_shorter [] course = course
  keeps_shorter (a ∷ before) course = (follows_sooner before a course.0, course.1, keeps_shorter before course.2)
