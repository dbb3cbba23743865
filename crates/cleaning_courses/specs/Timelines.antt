-- What is said to a policy, and what happens to one of its partitions on the leader, in one order: a broker that cleans by itself.
-- Kafka's documentation, "Design", section "Log Compaction": "The compaction is done in the background by periodically recopying
-- log segments".
use Rattle.std.specs.Prelude.{◌≡◌, ℕ, ◌≤◌, List, [], ◌∷◌, ◌++◌, Some}
use Rattle.content.specs.Content.{Content}
use Rattle.cleaning_policy.specs.declared.values.Frame.{Frame}
use Rattle.cleaning_policy.specs.declared.values.Pass.{Pass}
use Rattle.cleaning_policy.specs.declared.values.Settings.{Settings}
use Rattle.cleaning_policy.specs.Policies.{next_pass}
use Rattle.cleaning_policy.specs.Histories.{Call, behind, said}
use Rattle.cleaning_policy.specs.Histories.Call.{Next}
use Rattle.cleaning_policy.specs.Readers.{IsAmong}
use Rattle.cleaning_courses.specs.Steps.{Step, time_of, content_after, HasWholeEnds, MayFollow, IsCourse}
use Rattle.cleaning_courses.specs.Steps.Step.{Produce, Clean, ForeignClean, Fetch, Trim}
use Rattle.cleaning_courses.specs.Frames.{IsToldOf}

-- Something is said to the policy, or it is asked for a frame; or something happens to the partition.
pub data Moment : Type 0 where
  Said : Call → Moment
  Happened : Step → Moment

-- A list of moments has the latest first.

abbrev pub calls_of : List Moment → List Call
calls_of [] = []
calls_of (Said call ∷ before) = call ∷ calls_of before
calls_of (Happened a ∷ before) = calls_of before

-- what happened to the partition, and had happened before
abbrev pub steps_of : (earlier : List Step) → List Moment → List Step
steps_of earlier [] = earlier
steps_of earlier (Said call ∷ before) = steps_of earlier before
steps_of earlier (Happened a ∷ before) = a ∷ steps_of earlier before

-- by a time the policy gave this frame
pub record WasGiven (o : Settings) (calls : List Call) (time : ℕ) (frame : Frame) : Type 0 where
  pub since : List Call
  pub before : List Call
  pub now : ℕ
  pub pass : Pass
  pub are : calls ≡ since ++ Next now ∷ before
  pub gave : next_pass now (behind o before) (behind o before).pass ≡ Some pass
  pub is : pass.frame ≡ frame
  pub by_then : now ≤ time

-- What may happen next to the partition: its broker cleans it, or a part with whole ends, by a frame that the policy gave, and by
-- no other; all else as in a course.
abbrev pub MayHappen : Settings → (partition : ℕ) → Content → List Call → List Step → Step → Type 0
MayHappen o i c calls before (Produce t b) = MayFollow o.keep_deletes c before (Produce t b)
MayHappen o i c calls before (Clean t p) =
    WasGiven o calls t (record { partition = i; upto = p.upto; tomb_before = p.tomb_before }) × HasWholeEnds (content_after c before) p
MayHappen o i c calls before (ForeignClean t p) = MayFollow o.keep_deletes c before (ForeignClean t p)
MayHappen o i c calls before (Fetch t x) = MayFollow o.keep_deletes c before (Fetch t x)
MayHappen o i c calls before (Trim t start) = MayFollow o.keep_deletes c before (Trim t start)

-- From a course on, at rising times: what is said to the policy of the partition is so, and what happens may happen.
abbrev pub IsTimeline : Settings → (partition : ℕ) → Content → (earlier : List Step) → List Moment → Type 0
IsTimeline o i c earlier [] = IsCourse o.keep_deletes c earlier
IsTimeline o i c earlier (Said call ∷ before) =
    IsToldOf (said call (behind o (calls_of before))) i c (steps_of earlier before) × IsTimeline o i c earlier before
IsTimeline o i c earlier (Happened a ∷ before) =
    MayHappen o i c (calls_of before) (steps_of earlier before) a
    × ((b : Step) → IsAmong b (steps_of earlier before) → time_of b ≤ time_of a) × IsTimeline o i c earlier before
