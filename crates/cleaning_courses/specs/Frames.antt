-- What ties what a policy is told, and its frames, to what happens to a partition on its leader. Kafka's documentation, "Design",
-- section "Log Compaction": "Cleaning does not block reads".
use Rattle.std.specs.Prelude.{◌≡◌, ℕ, ℤ, List, ◌++◌, IfSome}
use Rattle.std.specs.List.{Contains}
use Rattle.content.specs.Content.{Content, end}
use Rattle.cleaning_policy.specs.declared.values.Extent.{Extent}
use Rattle.cleaning_policy.specs.declared.values.Frame.{Frame}
use Rattle.cleaning_policy.specs.declared.values.Marks.{Marks}
use Rattle.cleaning_policy.specs.Histories.{Event}
use Rattle.cleaning_policy.specs.Histories.Event.{Told, Over}
use Rattle.cleaning_courses.specs.Steps.{Step, content_after, WasOver}

-- what the leader held behind some first ones of the steps ended there
pub record HasEnded (c : Content) (steps : List Step) (o : ℤ) : Type 0 where
  pub since : List Step
  pub before : List Step
  pub are : steps ≡ since ++ before
  pub ended : end (content_after c before) ≡ o

-- What was said to a policy of a partition is so: each end was the leader's at some moment, and each pass that is over had
-- come to its bound by the time that was said, as a reply comes behind what it answers, and a mark is of a pass that was.
pub record IsToldOf (h : List Event) (partition : ℕ) (c : Content) (steps : List Step) : Type 0 where
  pub ends : (t : ℕ) (x : Extent) → Contains h (Told t partition x) → HasEnded c steps x.end
  pub passes : (t : ℕ) (f : Frame) → f.partition ≡ partition → Contains h (Over t f) → WasOver c steps t f.upto

-- marks of passes: by the time of each a pass had come to there
abbrev pub AreOfPasses : Content → List Step → Marks → Type 0
AreOfPasses c steps m =
    IfSome m.older (λ k. WasOver c steps k.ended k.upto) × IfSome m.newest (λ k. WasOver c steps k.ended k.upto)
